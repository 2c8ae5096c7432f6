-- A book that is read and written again is the same book; a rule that is written and read again is the same rule.
use Rattle.std.proofs.Common.{◌≡◌, ℕ, zero, suc, ◌+◌, ◌-◌, ◌*◌, ◌/◌, ◌%◌, ◌<◌, ◌≤◌, Bool, true, false, cond, eqb, ltb, leb, List, [], ◌∷◌, ◌++◌, length, get_or, take, drop, replicate, is_some, Some, None, Option, sym, refl, ap, ◌∙◌, subst, not-suc-le-zero, arith, length-drop, length-take, get_or-drop, take_all, get_or-take, take-add, drop_at, ltb-false, ltb-true, eq-eqb, ne_eqb, eqb-true, le-leb, leb-true}
use borrow.Author.Tests.{eqb-false}
use lib.Seq.{take-append-le, drop-append-le}
use Rattle.std.proofs.lemmas.List.{get_or_past}
use Rattle.std.specs.Option.{option_map}
use Rattle.rule.specs.declared.faults.Condition.{Condition}
use Rattle.rule.specs.declared.faults.Condition.TheVariants.{Kinds, Fields, Windows, Links, Operands}
use Rattle.rule.specs.declared.kinds.Kind.{Kind}
use Rattle.rule.specs.declared.kinds.Record.{Record}
use Rattle.rule.specs.Layout.{kind_of, fields_of, record_of, bytes_of}
use Rattle.rule.specs.Conditions.{Each, at, blank, holds, Lawful, Bare}
use Rattle.rule.specs.Books.{place, records_of, part, all_zero, kind_ok, last_of, Kept, Says, written_at, written_below, written}
use Rattle.rule.proofs.Back.{and_left, and_right, Ahead, first_ahead, next_ahead}
use Rattle.rule.proofs.Places.{place_is, places_all, records_of-at, kind_known}
use Rattle.rule.proofs.Round.{round, Linkable, record_back}
use Rattle.rule.proofs.Written.{length-written_at, length_below}

-- ---- from the book

zeros_are : (bs : List ℕ) → all_zero bs ≡ true → bs ≡ replicate (length bs) 0
zeros_are [] h = refl
zeros_are (b ∷ bs) h =
    let z : b ≡ 0 = eqb-true b 0 (and_left (eqb b 0) (all_zero bs) h) in
    let r = zeros_are bs (and_right (eqb b 0) (all_zero bs) h) in
    cc

fits_take : (n : ℕ) (xs : List ℕ) (i : ℕ) → n ≤ i → get_or (take n xs) i 0 < 256
fits_take n xs i h =
    let l : length (take n xs) ≤ i = simp length-take (omega arith) in
    rw (get_or_past (take n xs) i 0 l) (omega arith)

-- the record that 24 bytes hold, written again
with_kind : (bs : List ℕ) (o : Option Kind) → kind_of (get_or bs 0 0) ≡ o → length bs ≡ 24 → ((i : ℕ) → get_or bs i 0 < 256)
    → (r : Record) → option_map (fields_of bs) o ≡ Some r → bytes_of r ≡ bs
with_kind bs None e len fit r h = (let z : ◌≡◌ {A = ℕ} 0 1 = cc in absurd (omega arith))
with_kind bs (Some k) e len fit r h =
    let q : fields_of bs k ≡ r = cc in
    ap bytes_of (sym q) ∙ round bs k len fit e

there : (o : Option Record) → is_some o ≡ true → (r : Record) × (o ≡ Some r)
there None h = (let z : ◌≡◌ {A = ℕ} 0 1 = cc in absurd (omega arith))
there (Some r) h = (r, refl)

module _ (book : List ℕ) (last : ℕ) (hi : last < 64) (len : length book ≡ 24 * (last + 1)) (fit : (i : ℕ) → get_or book i 0 < 256)
    (kinds : Each last (kind_ok book)) where
  part_length : (k : ℕ) → k ≤ last → length (part book k) ≡ 24
  part_length k h = simp (length-take, length-drop) (omega arith)

  part_fits : (k i : ℕ) → get_or (part book k) i 0 < 256
  part_fits k i = go (ltb i 24) refl
    where
      go : (t : Bool) → ltb i 24 ≡ t → get_or (part book k) i 0 < 256
      go true e =
          let h : i < 24 = ltb-true i 24 e in
          rw (get_or-take 24 (drop (24 * k) book) i 0 h, get_or-drop (24 * k) book i 0) (fit (24 * k + i))
      go false e = fits_take 24 (drop (24 * k) book) i (ltb-false i 24 e)

  part_written : (k : ℕ) → k ≤ last → written_at (records_of book last) k ≡ part book k
  part_written k h = go (eqb k 0) refl
    where
      go : (t : Bool) → eqb k 0 ≡ t → cond t (replicate 24 0) (bytes_of (at (records_of book last) k)) ≡ part book k
      go true e =
          let z : k ≡ 0 = eqb-true k 0 e in
          let l = part_length 0 (omega arith) in
          ap (λ (n : ℕ). replicate n 0) (sym l) ∙ sym (zeros_are (part book 0) (kinds 0 (omega arith))) ∙ ap (part book) (sym z)
      go false e =
          let lo : 1 ≤ k = omega (arith, eqb-false k 0 e) in
          let (r, d) = there (record_of (part book k)) (sym (kind_known book k lo) ∙ kinds k h) in
          ap bytes_of (records_of-at book last k (omega arith) ∙ place_is book (last + 1) k r lo (omega arith) d)
          ∙ with_kind (part book k) (kind_of (get_or (part book k) 0 0)) refl (part_length k h) (part_fits k) r d

  front_is : (k : ℕ) → k ≤ last + 1 → written_below (records_of book last) k ≡ take (24 * k) book
  unfolding written_below
  front_is zero h = refl
  front_is (suc k) h =
      let e : 24 * k + 24 ≡ 24 * suc k = omega arith in
      let a = front_is k (omega arith) in
      let b = part_written k (omega arith) in
      let t = take-add (24 * k) 24 book in
      let u = ap (λ (n : ℕ). take n book) e in
      cc

  pub written_again : written (records_of book last) last ≡ book
  written_again = front_is (last + 1) (omega arith) ∙ take_all (24 * (last + 1)) book (omega arith)

-- ---- from the rule

pub last_of_length : (n last : ℕ) → 1 ≤ last → last < 64 → n ≡ 24 * (last + 1) → last_of n ≡ Some last
last_of_length n last lo hi e =
    let a : leb 48 n ≡ true = le-leb 48 n (omega arith) in
    let b : leb n 1536 ≡ true = le-leb n 1536 (omega arith) in
    let m : eqb (n % 24) 0 ≡ true = eq-eqb (n % 24) 0 (omega arith) in
    let q : n / 24 - 1 ≡ last = omega arith in
    rw (a, b, m) (ap (λ (x : ℕ). Some x) q)

-- the bytes of record k, among those of the records below n
pub part_below : (rs : List Record) (n k : ℕ) → k < n → part (written_below rs n) k ≡ written_at rs k
unfolding written_below
part_below rs zero k h = absurd (not-suc-le-zero h)
part_below rs (suc n) k h = go (ltb k n) refl (λ lt. part_below rs n k lt)
  where
    go : (t : Bool) → ltb k n ≡ t → (k < n → part (written_below rs n) k ≡ written_at rs k)
        → take 24 (drop (24 * k) (written_below rs n ++ written_at rs n)) ≡ written_at rs k
    go true e ih =
        let lt : k < n = ltb-true k n e in
        let l = length_below rs n in
        let a : 24 * k ≤ length (written_below rs n) = omega arith in
        let d : 24 ≤ length (drop (24 * k) (written_below rs n)) = simp length-drop (omega arith) in
        ap (take 24) (drop-append-le (24 * k) (written_below rs n) (written_at rs n) a)
        ∙ take-append-le 24 (drop (24 * k) (written_below rs n)) (written_at rs n) d
        ∙ ih lt
    go false e ih =
        let q : k ≡ n = omega (arith, ltb-false k n e) in
        let l : length (written_below rs n) ≡ 24 * k = length_below rs n ∙ ap (λ (x : ℕ). 24 * x) (sym q) in
        let w = length-written_at rs n in
        ap (take 24) (drop_at (written_below rs n) (written_at rs n) (24 * k) l)
        ∙ take_all 24 (written_at rs n) (omega arith)
        ∙ ap (written_at rs) (sym q)

linkable : (last k : ℕ) (l : Option ℕ) → last < 64 → Ahead last k l → Linkable l
linkable last k None hi h = tt
linkable last k (Some j) hi h = (let a = h.0 in omega arith, let b = h.1 in omega arith)

module _ (rs : List Record) (last : ℕ) (lo : 1 ≤ last) (hi : last < 64) (len : length rs ≡ 64) (ok : Lawful rs last) (bare : Bare rs last) where
  record_at_lem : (k : ℕ) → 1 ≤ k → k ≤ last → record_of (part (written rs last) k) ≡ Some (at rs k)
  record_at_lem k low h =
      let r : Record = at rs k in
      let n : eqb k 0 ≡ false = ne_eqb k 0 (omega arith) in
      let w : part (written rs last) k ≡ bytes_of r = part_below rs (last + 1) k (omega arith) ∙ rw n in
      let f = linkable last k r.first hi (first_ahead rs last k (ok Links k h)) in
      let x = linkable last k r.next hi (next_ahead rs last k (ok Links k h)) in
      let b : leb r.lower r.upper ≡ true = and_left _ (leb r.upper 1000000000000) (ok Windows k h) in
      let t : leb r.upper 1000000000000 ≡ true = and_right (leb r.lower r.upper) _ (ok Windows k h) in
      let p = leb-true r.lower r.upper b in
      let q = leb-true r.upper 1000000000000 t in
      ap record_of w ∙ record_back r f x (omega arith) (omega arith)

  place_at : (j : ℕ) → j < 64 → get_or rs j blank ≡ place (written rs last) (last + 1) j
  unfolding place
  place_at j h = go (ltb 0 j) (ltb j (last + 1)) refl refl
    where
      go : (s t : Bool) → ltb 0 j ≡ s → ltb j (last + 1) ≡ t → get_or rs j blank ≡ place (written rs last) (last + 1) j
      go false t e f = let z : 0 ≡ j = omega (arith, ltb-false 0 j e) in rw e (subst (λ (i : ℕ). at rs i ≡ blank) z bare.0)
      go true false e f = rw (e, f) (bare.1 j (omega (arith, ltb-false j (last + 1) f)))
      go true true e f =
          sym (place_is (written rs last) (last + 1) j (at rs j) (ltb-true 0 j e) (ltb-true j (last + 1) f)
          (record_at_lem j (ltb-true 0 j e) (omega (arith, ltb-true j (last + 1) f))))

  pub read_again : records_of (written rs last) last ≡ rs
  read_again = sym (places_all (written rs last) rs last len place_at)

  kind_at : (k : ℕ) → k ≤ last → kind_ok (written rs last) k ≡ true
  kind_at k h = go (eqb k 0) refl
    where
      go : (t : Bool) → eqb k 0 ≡ t → kind_ok (written rs last) k ≡ true
      go true e =
          let z : k ≡ 0 = eqb-true k 0 e in
          subst (λ (i : ℕ). kind_ok (written rs last) i ≡ true) (sym z) (ap all_zero (part_below rs (last + 1) 0 (omega arith)))
      go false e =
          let low : 1 ≤ k = omega (arith, eqb-false k 0 e) in
          kind_known (written rs last) k low ∙ ap is_some (record_at_lem k low h)

  kept_at : (c : Condition) → Kept (written rs last) last c
  kept_at Kinds k h = kind_at k h
  kept_at Fields k h = ap (λ (xs : List Record). holds Fields xs last k) read_again ∙ ok Fields k h
  kept_at Windows k h = ap (λ (xs : List Record). holds Windows xs last k) read_again ∙ ok Windows k h
  kept_at Links k h = ap (λ (xs : List Record). holds Links xs last k) read_again ∙ ok Links k h
  kept_at Operands k h = ap (λ (xs : List Record). holds Operands xs last k) read_again ∙ ok Operands k h

  pub says_again : Says (written rs last) rs last
  says_again =
      record {
        accepted = record { sized = last_of_length _ last lo hi (length_below rs (last + 1)); kept = kept_at };
        holds = read_again;
      }
