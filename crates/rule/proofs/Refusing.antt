-- From what is known of the records to what is known of their book.
use Rattle.std.proofs.Common.{◌≡◌, ℕ, zero, suc, ◌+◌, ◌<◌, ◌≤◌, Bool, true, false, ltb, List, [], ◌∷◌, length, get_or, Some, None, Err, Option, sym, refl, ap, ◌∙◌, subst, arith, ltb-true, ltb-false}
use Rattle.std.specs.Option.{ok_or}
use Rattle.rule.specs.declared.faults.BookFault.{BookFault}
use Rattle.rule.specs.declared.faults.BookFault.TheVariants.{Length, Broken}
use Rattle.rule.specs.declared.faults.Condition.{Condition}
use Rattle.rule.specs.declared.faults.Condition.TheVariants.{Kinds, Fields, Windows, Links, Operands}
use Rattle.rule.specs.declared.kinds.Record.{Record}
use Rattle.rule.specs.Conditions.{Each, holds, Lawful, Countable}
use Rattle.rule.specs.Books.{last_of, records_of, keeps, number_for, Kept, KeptBefore, Accepted, Refused, by_length, by_condition}
use Rattle.rule.specs.Faults.{book_refusal}

-- the conditions that are asked of a draft, in their order
abbrev pub asked : List Condition
asked = Fields ∷ Windows ∷ Links ∷ Operands ∷ []

number_asked : (i : ℕ) → i < 4 → number_for (get_or asked i Kinds) ≡ 3 + i
number_asked zero h = refl
number_asked (suc zero) h = refl
number_asked (suc (suc zero)) h = refl
number_asked (suc (suc (suc zero))) h = refl
number_asked (suc (suc (suc (suc i)))) h = absurd (omega arith)

module _ (rs : List Record) (last : ℕ) where
  -- the conditions before number i of those asked are kept
  abbrev pub KeptUpTo : ℕ → Type 0
  KeptUpTo i = (j : ℕ) → j < i → Each last (holds (get_or asked j Kinds) rs last)

  -- each condition with a smaller number is kept
  abbrev pub KeptUnder : ℕ → Type 0
  KeptUnder n = (c : Condition) → number_for c < n → Each last (holds c rs last)

  pub kept_up_to : (i : ℕ) → i ≤ 4 → KeptUpTo i → KeptUnder (3 + i)
  kept_up_to i l h Kinds n = λ k p. refl
  kept_up_to i l h Fields n = h 0 (omega arith)
  kept_up_to i l h Windows n = h 1 (omega arith)
  kept_up_to i l h Links n = h 2 (omega arith)
  kept_up_to i l h Operands n = h 3 (omega arith)

  pub kept_under : (i : ℕ) → i < 4 → KeptUpTo i → KeptUnder (number_for (get_or asked i Kinds))
  kept_under i l h = subst KeptUnder (sym (number_asked i l)) (kept_up_to i (omega arith) h)

  -- one more is kept
  pub kept_more : (i : ℕ) → KeptUpTo i → Each last (holds (get_or asked i Kinds) rs last) → KeptUpTo (i + 1)
  kept_more i h e j l = go (ltb j i) refl
    where
      go : (t : Bool) → ltb j i ≡ t → Each last (holds (get_or asked j Kinds) rs last)
      go true p = h j (ltb-true j i p)
      go false p =
          let q : i ≡ j = (let a = ltb-false j i p in omega arith) in
          subst (λ (n : ℕ). Each last (holds (get_or asked n Kinds) rs last)) q e

  pub countable : (c : Condition) → KeptUnder (number_for c) → Countable c rs last
  countable Kinds h = tt
  countable Fields h = tt
  countable Windows h = tt
  countable Links h = tt
  countable Operands h = h Links (omega arith)

  -- all of them are
  pub lawful : (i : ℕ) → 4 ≤ i → KeptUpTo i → Lawful rs last
  lawful i l h c = kept_up_to 4 (omega arith) (λ j k. h j (omega arith)) c (below c)
    where
      below : (c : Condition) → number_for c < 7
      below Kinds = omega arith
      below Fields = omega arith
      below Windows = omega arith
      below Links = omega arith
      below Operands = omega arith

-- no condition is asked before the kinds
pub none_before : (book : List ℕ) (last : ℕ) → KeptBefore book last (number_for Kinds)
none_before book last Kinds h = absurd (omega arith)
none_before book last Fields h = absurd (omega arith)
none_before book last Windows h = absurd (omega arith)
none_before book last Links h = absurd (omega arith)
none_before book last Operands h = absurd (omega arith)

-- a book without a last record has a wrong length
pub no_last : (book : List ℕ) (f : BookFault) → {A : Type 0} (o : Option A) → Err f ≡ ok_or o Length → (o ≡ None → last_of (length book) ≡ None)
    → Refused book (book_refusal f).number (book_refusal f).«record»
no_last book f None e h =
    let q : Length ≡ f = cc in
    subst (λ (g : BookFault). Refused book (book_refusal g).number (book_refusal g).«record») q (by_length (h refl))
no_last book f (Some x) e h = let z : ◌≡◌ {A = ℕ} 0 1 = cc in absurd (omega arith)

module _ (book : List ℕ) (last : ℕ) (sized : last_of (length book) ≡ Some last) where
  -- a record breaks a condition, and those before it are kept
  pub refused : (c : Condition) → KeptBefore book last (number_for c)
      → (f : BookFault) → ((k : ℕ) × (f ≡ Broken c k) × (k ≤ last) × (keeps c book last k ≡ false))
      → Refused book (book_refusal f).number (book_refusal f).«record»
  refused c before f x =
      subst (λ (g : BookFault). Refused book (book_refusal g).number (book_refusal g).«record») (sym x.1)
      (by_condition c sized before x.2 x.3)

  module _ (rs : List Record) (read : rs ≡ records_of book last) where
    -- past the kinds, a book keeps what its records keep
    keeps_is : (c : Condition) → 2 < number_for c → (k : ℕ) → keeps c book last k ≡ holds c rs last k
    keeps_is Kinds h k = absurd (omega arith)
    keeps_is Fields h k = ap (λ (xs : List Record). holds Fields xs last k) (sym read)
    keeps_is Windows h k = ap (λ (xs : List Record). holds Windows xs last k) (sym read)
    keeps_is Links h k = ap (λ (xs : List Record). holds Links xs last k) (sym read)
    keeps_is Operands h k = ap (λ (xs : List Record). holds Operands xs last k) (sym read)

    pub kept : (c : Condition) → 2 < number_for c → Each last (holds c rs last) → Kept book last c
    kept c h x k l = keeps_is c h k ∙ x k l

    -- a draft breaks a condition that was asked, and those before it are kept
    pub refused_by : Kept book last Kinds → (i : ℕ) → i < 4 → KeptUpTo rs last i
        → (f : BookFault) → ((k : ℕ) × (f ≡ Broken (get_or asked i Kinds) k) × (k ≤ last) × (holds (get_or asked i Kinds) rs last k ≡ false))
        → Refused book (book_refusal f).number (book_refusal f).«record»
    refused_by known i l h f x =
        refused (get_or asked i Kinds) before f (x.0, x.1, x.2, keeps_is (get_or asked i Kinds) (omega (arith, number_asked i l)) x.0 ∙ x.3)
      where
        before : KeptBefore book last (number_for (get_or asked i Kinds))
        before Kinds n = known
        before Fields n = kept Fields (omega arith) (kept_under rs last i l h Fields n)
        before Windows n = kept Windows (omega arith) (kept_under rs last i l h Windows n)
        before Links n = kept Links (omega arith) (kept_under rs last i l h Links n)
        before Operands n = kept Operands (omega arith) (kept_under rs last i l h Operands n)

    -- a book whose every condition was asked is accepted
    pub accepted : Kept book last Kinds → Lawful rs last → Accepted book last
    accepted kinds ok = record { sized = sized; kept = go }
      where
        go : (c : Condition) → Kept book last c
        go Kinds = kinds
        go Fields = kept Fields (omega arith) (ok Fields)
        go Windows = kept Windows (omega arith) (ok Windows)
        go Links = kept Links (omega arith) (ok Links)
        go Operands = kept Operands (omega arith) (ok Operands)
