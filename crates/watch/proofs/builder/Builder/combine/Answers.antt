use Rattle.std.proofs.Common.{ℕ, ◌-◌, List, [], ◌∷◌, ◌++◌, ◌≡◌, ◌≤◌, ◌+◌, length, set, get_or, take, ap, sym, ◌∙◌, arith}
use Rattle.std.specs.List.{refill}
use Rattle.std.proofs.lemmas.Grind.{common_steps}
use Rattle.std.proofs.lemmas.List.{length-set, take_more_set}
use Rattle.arrayvec.specs.ArrayVec.{ArrayVec}
use Rattle.watch.specs.declared.cells.Entry.{Entry}
use Rattle.watch.specs.declared.cells.Verdict.TheVariants.{True}
use Rattle.watch.proofs.Building.{combined}
use Rattle.watch.proofs.builder.Builder.combine.Goals as goal

refill_same : (xs ws : List Entry) → length ws ≡ length xs → refill (length xs) xs ws ≡ ws
refill_same xs ws e = grind (arith, common_steps)

-- what is left of the entries once one is written over the second from the top, and the top is taken away
written : (xs ys : List Entry) (k : ℕ) (e : Entry) → ys ≡ xs → k ≡ length xs → 2 ≤ k →
    let zs = refill (length xs) xs (set ys (k - 2) e) in
    take (length zs - 1) zs ≡ take (k - 2) xs ++ e ∷ []
written xs ys k e same len two =
    let zs = set xs (k - 2) e in
    ap (λ (ws : List Entry). take (length ws - 1) ws)
    (ap (λ (ws : List Entry). refill (length xs) xs (set ws (k - 2) e)) same ∙ refill_same xs zs (length-set xs (k - 2) e))
    ∙ (ap (λ (n : ℕ). take n zs) (let one : length zs - 1 ≡ k - 2 + 1 = omega (arith, length-set xs (k - 2) e) in one)
    ∙ take_more_set xs (k - 2) e (omega arith))

pub returns-clause-builds : goal.returns-clause-builds
returns-clause-builds c rule t u ts h =
    let m = c.meet-verdict.ensures in
    let b = c.args.self.now in
    let d : Entry = record { start = 0; verdict = True } in
    let k : ℕ = c.len-depth.result in
    let made : List Entry → Entry = λ es. record { start = (get_or es (k - 2) d).start; verdict = c.meet-verdict.result } in
    combined rule b c.args.op t u ts d c.meet-verdict.result _ _ k _ _ c.len-depth.ensures.value
    (ap (λ (es : List Entry). get_or es (k - 1) d) c.deref.ensures.0)
    (ap (λ (es : List Entry). get_or es (k - 2) d) c.deref-2.ensures.0)
    (λ below xs ys. m.meets rule below xs ys t u) _
    (c.pop.ensures.rest
    ∙ written c.meet-verdict.new.self.entries.items c.deref_mut.result.now k (made c.deref_mut.result.now) c.deref_mut.ensures.value
    (c.len-depth.ensures.value ∙ ap (λ (v : ArrayVec Entry). length v.items) (sym m.entries)) c.if-depth-lt2.false
    ∙ ap (λ (v : ArrayVec Entry). take (k - 2) v.items ++ made c.deref_mut.result.now ∷ []) m.entries
    ∙ ap (λ (es : List Entry). take (k - 2) b.entries.items ++ made es ∷ [])
    (c.deref_mut.ensures.value ∙ ap (λ (v : ArrayVec Entry). v.items) m.entries ∙ sym c.deref-2.ensures.0)) h
