-- What two terms make under an operator, by their verdicts.
use Rattle.std.proofs.Common.{◌≡◌, Bool, true, false, not, sym, refl, ap, ◌∙◌, subst}
use Rattle.wmtl.specs.Residual.{Term, is_true, is_false, fresh, waiting, both, either}
use Rattle.wmtl.proofs.Terms.{fuse, pair, Open, fusing, fuse_same, fuse_other}
use Rattle.wmtl.proofs.Terms as terms
use Rattle.watch.specs.declared.cells.Operator.{Operator}
use Rattle.watch.specs.declared.cells.Operator.TheVariants.{Both, Either}
use Rattle.watch.specs.declared.cells.Simplified.{Simplified}
use Rattle.watch.specs.declared.cells.Simplified.TheVariants.{Absorbed, Left, Right, Joined}
use Rattle.watch.specs.declared.cells.Verdict.{Verdict}
use Rattle.watch.specs.declared.cells.Verdict.TheVariants.{Undecided}
use Rattle.watch.specs.Stored.{told, paired, joined, absorbing}
use Rattle.watch.specs.Working.{simplify}

-- a term that is a constant
abbrev pub Constant : Term → Type 0
Constant is_true = Unit {0}
Constant is_false = Unit {0}
Constant (fresh f) = ⊥
Constant (waiting t x) = ⊥
Constant (both t u) = ⊥
Constant (either t u) = ⊥

-- what a simplification says of two terms and what they make
abbrev pub Says : Operator → Term → Term → Simplified → Term → Type 0
Says o t u Absorbed j = j ≡ absorbing o
Says o t u Left j = (j ≡ t) × Constant u
Says o t u Right j = (j ≡ u) × Constant t
Says o t u Joined j = (j ≡ paired o t u) × (told t ≡ Undecided) × (told u ≡ Undecided)

open_pair : (q : Bool) (t u : Term) → Open t → Open u → fuse q t u ≡ pair q t u
open_pair q t u o o' =
    fusing q (λ t u j. Open t → Open u → j ≡ pair q t u)
    (record {
      same_left = λ u o o'. absurd (shut q o);
      other_left = λ u o o'. absurd (shut (not q) o);
      same_right = λ t o o'. absurd (shut q o');
      other_right = λ t o o'. absurd (shut (not q) o');
      both_open = λ t u _ _ o o'. refl;
    })
    t u o o'
  where
    shut : (b : Bool) → Open (terms.constant b) → ⊥
    shut true x = x
    shut false x = x

told_open : (t : Term) → Open t → told t ≡ Undecided
told_open is_true o = absurd o
told_open is_false o = absurd o
told_open (fresh f) o = refl
told_open (waiting f x) o = refl
told_open (both t u) o = refl
told_open (either t u) o = refl

-- an open term on the left
both_open : (o : Operator) (t u : Term) → Open t → Open u → Says o t u (simplify o (told t) (told u)) (joined o t u)
both_open Both t u x y =
    let a = told_open t x in
    let b = told_open u y in
    rw (a, b) (open_pair true t u x y, a, b)
both_open Either t u x y =
    let a = told_open t x in
    let b = told_open u y in
    rw (a, b) (open_pair false t u x y, a, b)

on_left : (o : Operator) (t u : Term) → Open t → Says o t u (simplify o (told t) (told u)) (joined o t u)
on_left Both t is_true x = let a = told_open t x in rw a (fuse_same true t, tt)
on_left Both t is_false x = let a = told_open t x in rw a (fuse_other true t)
on_left Either t is_true x = let a = told_open t x in rw a (fuse_other false t)
on_left Either t is_false x = let a = told_open t x in rw a (fuse_same false t, tt)
on_left o t (fresh f) x = both_open o t (fresh f) x tt
on_left o t (waiting f y) x = both_open o t (waiting f y) x tt
on_left o t (both u v) x = both_open o t (both u v) x tt
on_left o t (either u v) x = both_open o t (either u v) x tt

pub simplifies : (o : Operator) (t u : Term) → Says o t u (simplify o (told t) (told u)) (joined o t u)
simplifies Both is_true u = (refl, tt)
simplifies Both is_false u = refl
simplifies Either is_true u = refl
simplifies Either is_false u = (refl, tt)
simplifies o (fresh f) u = on_left o (fresh f) u tt
simplifies o (waiting f x) u = on_left o (waiting f x) u tt
simplifies o (both s t) u = on_left o (both s t) u tt
simplifies o (either s t) u = on_left o (either s t) u tt

-- the same for what was found from the verdicts
pub simplified_says : (o : Operator) (x : Simplified) (v w : Verdict) (t u : Term) → x ≡ simplify o v w → v ≡ told t → w ≡ told u
    → Says o t u x (joined o t u)
simplified_says o x v w t u e p q =
    subst (λ (y : Simplified). Says o t u y (joined o t u))
    (sym (e ∙ ap (λ (a : Verdict). simplify o a w) p ∙ ap (λ (a : Verdict). simplify o (told t) a) q)) (simplifies o t u)
