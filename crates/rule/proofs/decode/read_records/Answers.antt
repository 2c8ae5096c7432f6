use Rattle.std.proofs.Common.{◌≡◌, ℕ, ◌+◌, ◌*◌, ◌<◌, List, length, drop, Some, sym, refl, ap, ◌∙◌, arith, length-set, length-drop}
use Rattle.std.proofs.lemmas.List.{get_or-replicate}
use Rattle.std.specs.Slice.Iter.{chunks_exact_rest, chunks_exact_size}
use Rattle.rule.specs.Conditions.{blank}
use Rattle.rule.specs.Books.{place, place_said, part}
use Rattle.rule.proofs.Chunks.{next_piece}
use Rattle.rule.proofs.Places.{place_front, places_said, kinds_said, places_all}
use Rattle.rule.proofs.decode.read_records.Goals as goal

pub loop-k-init : goal.loop-k-init
loop-k-init c =
    let book : List ℕ = c.args.book.now in
    let e = c.into_iter-k-iterator.ensures.into_iter_gives in
    let all = c.enumerate-k-items.ensures.source in
    let n : c.into_iter-k-iterator.result.count ≡ 0 = ap (λ it. it.count) e ∙ c.enumerate-k-items.ensures.count in (
      ap (λ it. chunks_exact_size it.iter) e ∙ ap chunks_exact_size all ∙ c.chunks_exact.ensures.size,
      ap (λ it. chunks_exact_rest it.iter) e ∙ ap chunks_exact_rest all ∙ c.chunks_exact.ensures.rest ∙ ap (λ (k : ℕ). drop (24 * k) book) (sym n),
      omega (arith, n),
      refl,
      rw n (λ j h. get_or-replicate 64 j blank blank h ∙ sym (place_front book j)),
      rw n (λ j h. absurd (omega arith)),
    )

pub loop-k-preserved : goal.loop-k-preserved
loop-k-preserved c =
    let book : List ℕ = c.args.book.now in
    let k : ℕ = c.loop-k.k-iterator.count in
    let s = c.in-Some.ensures.steps in
    let i = c.loop-k.invariant in
    let p = next_piece 24 k book (omega arith) i.0 i.1 s.0.1.0 s.0.1.1 in
    let said : place_said (part book k) k ≡ Some c.in-Some-place_of.r =
    ap (λ (bs : List ℕ). place_said bs k) p.is ∙ ap (place_said c.in-Some.bytes.now) (sym s.1) ∙ sym c.place_of.ensures ∙ c.in-Some-place_of.is in
    let more = places_said book c.loop-k.records k c.in-Some-place_of.r i.3 (omega (arith, p.within, c.requires.0, c.requires.1)) said i.4 in
    let kinds = kinds_said book k c.in-Some-place_of.r said i.5 in
    let n : c.next.new.self.count ≡ k + 1 = s.2 in
    let at : c.in-Some.k ≡ k = s.1 in (
      s.0.0 ∙ i.0,
      p.left ∙ ap (λ (n : ℕ). drop (24 * n) book) (sym n),
      omega (arith, n, p.within, c.requires.1),
      length-set c.loop-k.records c.in-Some.k c.in-Some-place_of.r ∙ i.3,
      rw (n, at) more,
      rw n kinds,
    )

pub returns : goal.returns
returns c =
    let book : List ℕ = c.args.book.now in
    let k : ℕ = c.loop-k.k-iterator.count in
    let i = c.loop-k.invariant in
    let s = c.in-None.ensures.steps in
    let short : length (drop (24 * k) book) < 24 = rw (← i.1, ← i.0) s.0.1.0 in
    let q : k ≡ c.args.last + 1 = omega (arith, short, length-drop (24 * k) book, c.requires.1, i.2) in (
      places_all book c.loop-k.records c.args.last i.3 (λ j h. i.4 j h ∙ ap (λ (t : ℕ). place book t j) q),
      λ j h. i.5 j (omega (arith, q)),
    )
