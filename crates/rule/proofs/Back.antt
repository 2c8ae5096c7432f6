-- What `back` makes of a record, by what it makes of the records that its links lead to.
use Rattle.std.proofs.Common.{◌≡◌, ℕ, zero, suc, ◌+◌, ◌-◌, ◌<◌, ◌≤◌, Bool, true, false, ◌&&◌, ltb, leb, List, [], ◌∷◌, length, get_or, take, drop, IfSome, Some, None, Option, sym, refl, ap, ◌∙◌, subst, le_of_suc-le-suc, not-suc-le-zero, add-zero, zero-add, arith, length-take, get_or-drop, get_or-take, ltb-true, leb-true}
use borrow.Author.Tests.{clash}
use Rattle.rule.specs.declared.kinds.Record.{Record}
use Rattle.rule.specs.Conditions.{at, blank, back, beyond, led, forward, links_ok, spans}

module _ {X : Type 0} (make : Record → X → X → X) (none : X) where
  raw : (rs : List Record) (k i : ℕ) → i < length rs
      → get_or (back make none k rs) i none
      ≡ make (at rs i) (beyond none (k + i) (drop (suc i) (back make none k rs)) (at rs i).first)
      (beyond none (k + i) (drop (suc i) (back make none k rs)) (at rs i).next)
  raw [] k i h = absurd (not-suc-le-zero h)
  raw (r ∷ rs) k zero h = rw (add-zero k)
  raw (r ∷ rs) k (suc i) h = let e : k + suc i ≡ suc k + i = omega arith in rw (e, raw rs (suc k) i (le_of_suc-le-suc h))

  -- a link that goes forward
  lead : (xs : List X) (i : ℕ) (l : Option ℕ) → IfSome l (λ j. i < j) → beyond none i (drop (suc i) xs) l ≡ led none xs l
  lead xs i None h = refl
  lead xs i (Some j) h = let e : suc i + (j - suc i) ≡ j = omega arith in get_or-drop (suc i) xs (j - suc i) none ∙ ap (λ (n : ℕ). get_or xs n none) e

  pub back_at : (rs : List Record) (i : ℕ) → i < length rs
      → IfSome (at rs i).first (λ j. i < j) → IfSome (at rs i).next (λ j. i < j)
      → get_or (back make none 0 rs) i none
      ≡ make (at rs i) (led none (back make none 0 rs) (at rs i).first) (led none (back make none 0 rs) (at rs i).next)
  back_at rs i h f n =
      let b : List X = back make none 0 rs in
      let z : 0 + i ≡ i = zero-add i in
      rw (raw rs 0 i h, z, lead b i (at rs i).first f, lead b i (at rs i).next n)

pub and_left : (a b : Bool) → (a && b) ≡ true → a ≡ true
and_left true b h = refl
and_left false b h = h

pub and_right : (a b : Bool) → (a && b) ≡ true → b ≡ true
and_right true b h = h
and_right false b h = absurd (omega (arith, clash h))

-- a link leads forward inside the book
abbrev pub Ahead : ℕ → ℕ → Option ℕ → Type 0
Ahead last k l = IfSome l (λ j. (k < j) × (j ≤ last))

pub ahead : (last k : ℕ) (l : Option ℕ) → forward last k l ≡ true → Ahead last k l
ahead last k None h = tt
ahead last k (Some j) h =
    (ltb-true k j (and_left (ltb k j) (leb j last) h), leb-true j last (and_right (ltb k j) (leb j last) h))

pub later : (last k : ℕ) (l : Option ℕ) → Ahead last k l → IfSome l (λ j. k < j)
later last k None h = tt
later last k (Some j) h = h.0

-- both links of a record that passes
pub first_ahead : (rs : List Record) (last k : ℕ) → links_ok rs last k ≡ true → Ahead last k (at rs k).first
first_ahead rs last k h =
    ahead last k (at rs k).first (and_left _ (forward last k (at rs k).next) (and_left _ _ h))

pub next_ahead : (rs : List Record) (last k : ℕ) → links_ok rs last k ≡ true → Ahead last k (at rs k).next
next_ahead rs last k h =
    ahead last k (at rs k).next (and_right (forward last k (at rs k).first) _ (and_left _ _ h))

-- what is made of a record whose links pass
pub made_at : {X : Type 0} (make : Record → X → X → X) (none : X) (rs : List Record) (last k : ℕ) → last < length rs → k ≤ last → links_ok rs last k ≡ true
    → get_or (back make none 0 (take (last + 1) rs)) k none
    ≡ make (at rs k) (led none (back make none 0 (take (last + 1) rs)) (at rs k).first) (led none (back make none 0 (take (last + 1) rs)) (at rs k).next)
made_at {X} make none rs last k len le ok =
    let e : at (take (last + 1) rs) k ≡ at rs k = get_or-take (last + 1) rs k blank (omega arith) in
    let lt : k < length (take (last + 1) rs) = simp length-take (omega arith) in
    let b : List X = back make none 0 (take (last + 1) rs) in
    let f = subst (λ (r : Record). IfSome r.first (λ j. k < j)) (sym e) (later last k (at rs k).first (first_ahead rs last k ok)) in
    let n = subst (λ (r : Record). IfSome r.next (λ j. k < j)) (sym e) (later last k (at rs k).next (next_ahead rs last k ok)) in
    back_at make none (take (last + 1) rs) k lt f n
    ∙ ap (λ (r : Record). make r (led none b r.first) (led none b r.next)) e

-- the chain from a record on is one longer than the chain from its next on
pub span_at : (rs : List Record) (last k : ℕ) → last < length rs → k ≤ last → links_ok rs last k ≡ true
    → get_or (spans (take (last + 1) rs)) k 0 ≡ suc (led 0 (spans (take (last + 1) rs)) (at rs k).next)
span_at = made_at (λ r down on. suc on) 0

pub ahead_less : (last m k : ℕ) (l : Option ℕ) → m ≤ k → Ahead last k l → Ahead last m l
ahead_less last m k None le h = tt
ahead_less last m k (Some j) le h = (omega (arith, h.0), h.1)

-- how far a link may still go
abbrev pub to_go : Option ℕ → ℕ
to_go None = 0
to_go (Some j) = 65 - j

pub to_go_falls : (last j : ℕ) (l : Option ℕ) → last < 64 → j ≤ last → Ahead last j l → to_go l < to_go (Some j)
to_go_falls last j None hi le h = omega arith
to_go_falls last j (Some i) hi le h = omega (arith, h.0, h.1)
