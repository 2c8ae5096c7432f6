-- A pass over the cells of a stored term leaves what the rewriting makes of that term.
use Rattle.std.proofs.Common.{◌≡◌, ℕ, zero, suc, ◌+◌, ◌<◌, ◌≤◌, List, [], ◌∷◌, ◌++◌, length, get_or, take, sym, refl, ap, ◌∙◌, subst, arith}
use Rattle.std.proofs.lemmas.List.{take_more, take_all}
use Rattle.wmtl.specs.Formula.{Formula}
use Rattle.wmtl.specs.Residual.{Term}
use Rattle.rule.specs.declared.rules.Rule.{Rule}
use Rattle.watch.specs.declared.cells.Cell.{Cell}
use Rattle.watch.specs.declared.cells.Cell.TheVariants.{Fresh, Pair}
use Rattle.watch.specs.declared.cells.Verdict.TheVariants.{Undecided}
use Rattle.watch.specs.Passes.{Good, Upward, step, passed, waiting_of}
use Rattle.watch.specs.Stored.{Stores, stores_true, stores_false, stores_fresh, stores_waiting, stores_pair, told}

module _ (rule : Rule) where
  -- two rows of cells, one after the other
  passed_append : (g : Term → Term) (xs ys : List Cell) (ts : List Term) → passed rule g (xs ++ ys) ts ≡ passed rule g ys (passed rule g xs ts)
  passed_append g [] ys ts = refl
  passed_append g (x ∷ xs) ys ts = passed_append g xs ys (step rule g x ts)

  -- the cells of a term that is no constant
  passed_term : (g : Term → Term) → Upward g → {cs : List Cell} {t : Term} → Stores rule cs t → told t ≡ Undecided → (ts : List Term)
      → passed rule g cs ts ≡ g t ∷ ts
  passed_term g up stores_true e ts = absurd (let z : ◌≡◌ {A = ℕ} 0 1 = cc in omega arith)
  passed_term g up stores_false e ts = absurd (let z : ◌≡◌ {A = ℕ} 0 1 = cc in omega arith)
  passed_term g up (stores_fresh r) e ts = refl
  passed_term g up (stores_waiting {x = x} r is) e ts = ap (λ (f : Formula). g (waiting_of f x) ∷ ts) is
  passed_term g up (stores_pair {xs = xs} {ys = ys} {t = t} {u = u} o s s' p q) e ts =
      passed_append g ys (xs ++ Pair o ∷ []) ts
      ∙ passed_append g xs (Pair o ∷ []) (passed rule g ys ts)
      ∙ ap (λ (us : List Term). step rule g (Pair o) (passed rule g xs us)) (passed_term g up s' q ts)
      ∙ ap (λ (us : List Term). step rule g (Pair o) us) (passed_term g up s p (g u ∷ ts))
      ∙ ap (λ (v : Term). v ∷ ts) (sym (up o t u))

  pub passed_stored : (g : Term → Term) → Upward g → (cs : List Cell) (t : Term) → Stores rule cs t → told t ≡ Undecided → passed rule g cs [] ≡ g t ∷ []
  passed_stored g up cs t s e = passed_term g up s e []

  -- one cell more
  pub passed_more : (g : Term → Term) (cs : List Cell) (i : ℕ) → i < length cs
      → passed rule g (take (i + 1) cs) [] ≡ step rule g (get_or cs i (Fresh 0)) (passed rule g (take i cs) [])
  passed_more g cs i h = ap (λ (xs : List Cell). passed rule g xs []) (take_more cs i (Fresh 0) h) ∙ passed_append g (take i cs) (get_or cs i (Fresh 0) ∷ []) []

  -- each cell of a stored term is good
  abbrev Each : List Cell → Type 0
  Each [] = Unit {0}
  Each (c ∷ cs) = Good rule c × Each cs

  each_append : (xs ys : List Cell) → Each xs → Each ys → Each (xs ++ ys)
  each_append [] ys h k = k
  each_append (x ∷ xs) ys h k = (h.0, each_append xs ys h.1 k)

  each_stored : {cs : List Cell} {t : Term} → Stores rule cs t → Each cs
  each_stored stores_true = tt
  each_stored stores_false = tt
  each_stored (stores_fresh r) = (r, tt)
  each_stored (stores_waiting {t = t} r is) = ((r, (t, is)), tt)
  each_stored (stores_pair {xs = xs} {ys = ys} o s s' p q) =
      each_append ys (xs ++ Pair o ∷ []) (each_stored s') (each_append xs (Pair o ∷ []) (each_stored s) (tt, tt))

  each_at : (cs : List Cell) (i : ℕ) → i < length cs → Each cs → Good rule (get_or cs i (Fresh 0))
  each_at [] i h e = absurd (omega arith)
  each_at (c ∷ cs) zero h e = e.0
  each_at (c ∷ cs) (suc i) h e = each_at cs i (omega arith) e.1

  pub good_at : (cs : List Cell) (t : Term) (i : ℕ) → Stores rule cs t → i < length cs → Good rule (get_or cs i (Fresh 0))
  good_at cs t i s h = each_at cs i h (each_stored s)

  -- what one cell more does to whatever holds the stack
  pub pass_more : (g : Term → Term) (B P : List Term → Type 0) (cs : List Cell) (t : Term) (i : ℕ) → i < length cs → Stores rule cs t
      → ((ts : List Term) → Good rule (get_or cs i (Fresh 0)) → B ts → P (step rule g (get_or cs i (Fresh 0)) ts))
      → B (passed rule g (take i cs) []) → P (passed rule g (take (i + 1) cs) [])
  pass_more g B P cs t i h s f b = subst P (sym (passed_more g cs i h)) (f _ (good_at cs t i s h) b)

  -- and all of them
  pub pass_all : (g : Term → Term) → Upward g → (P : List Term → Type 0) (cs : List Cell) (t : Term) (i : ℕ) → length cs ≤ i → Stores rule cs t → told t ≡ Undecided
      → P (passed rule g (take i cs) []) → P (g t ∷ [])
  pass_all g up P cs t i h s e p = subst P (passed_stored g up cs t s e) (subst (λ (xs : List Cell). P (passed rule g xs [])) (take_all i cs h) p)
