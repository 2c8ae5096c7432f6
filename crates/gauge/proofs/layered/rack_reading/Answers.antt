use Rattle.std.proofs.Common.{◌≡◌, ◌∙◌, ap, ℕ, List}
use Rattle.gauge.specs.Meaning.{Meaning}
use Rattle.gauge.specs.Plain.{sum, peak, channels}
use Rattle.gauge.specs.Layers.{split, coarse}
use Rattle.gauge.specs.Posting.{added, reading}
use Rattle.gauge.specs.Rack.{rack_meaning}
use Rattle.gauge.proofs.layered.rack_reading.Goals as goal

abbrev layers : ℕ → ℕ → ℕ → Meaning
layers divisor border second = coarse divisor (split border sum (split second peak channels))

the_rack : {d e b s : ℕ} → d ≡ e → b ≡ 4 → s ≡ 2 → layers d b s ≡ coarse e rack_meaning
the_rack {d} {e} {b} {s} p q r =
    ap (λ (n : ℕ). layers n b s) p ∙ (ap (λ (n : ℕ). layers e n s) q ∙ ap (λ (n : ℕ). layers e 4 n) r)

in_order : (m : Meaning) (amounts : List ℕ) {c n t r : ℕ} → n ≡ m.start c → t ≡ added m c n amounts → r ≡ m.read c t →
    r ≡ reading m c amounts
in_order m amounts {c} {n} {t} {r} s p q = q ∙ ap (m.read c) (p ∙ ap (λ (x : ℕ). added m c x amounts) s)

pub returns-clause-in_order : goal.returns-clause-in_order
returns-clause-in_order c =
    let g = c.set_divisor.new.self in
    let e = c.in_ok-set_divisor.ensures in
    let same = e.same_inner ∙ c.new-gauge.ensures.inner in
    in_order (layers g.divisor g.inner.border g.inner.second.border) c.args.amounts.now c.start.ensures
    c.post_all-total.ensures.in_order c.read.ensures
    ∙ ap (λ (m : Meaning). reading m c.args.clock c.args.amounts.now)
    (the_rack e.set (ap (λ x. x.border) same ∙ c.rack.ensures.border) (ap (λ x. x.second.border) same ∙ c.rack.ensures.second_border))
