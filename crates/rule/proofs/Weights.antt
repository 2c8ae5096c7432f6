-- A part of a rule has no more records than stand from its first record on.
use Rattle.std.proofs.Common.{◌≡◌, ℕ, zero, suc, ◌+◌, ◌-◌, ◌*◌, ◌<◌, ◌≤◌, true, cond, ◌&&◌, eqb, ltb, leb, List, [], ◌∷◌, length, get_or, take, drop, Some, None, Option, refl, mul-le-mul_left, mul-zero, mul-one, mul-add, arith, drop_of_length-le, length-take, drop-cons, get_or-take}
use Rattle.std.proofs.lemmas.Bool.Decides.{nat_tests}
use Rattle.rule.specs.declared.kinds.Record.{Record}
use Rattle.rule.specs.Conditions.{at, blank, absent, led, names, named, forward, links_ok, Each}
use Rattle.rule.specs.Weights.{weights}
use Rattle.rule.proofs.Back.{and_right, Ahead, first_ahead, next_ahead, made_at}

-- the sum, over the numbers below n, of element j taken g j times
abbrev total : List ℕ → ℕ → (ℕ → ℕ) → ℕ
total ws zero g = 0
total ws (suc n) g = total ws n g + get_or ws n 0 * g n

module _ (ws : List ℕ) where
  total_add : (n : ℕ) (g h : ℕ → ℕ) → total ws n (λ j. g j + h j) ≡ total ws n g + total ws n h
  total_add zero g h = refl
  total_add (suc n) g h = omega (arith, total_add n g h, mul-add (get_or ws n 0) (g n) (h n))

  total_le : (n : ℕ) (g h : ℕ → ℕ) → ((j : ℕ) → j < n → g j ≤ h j) → total ws n g ≤ total ws n h
  total_le zero g h le = omega arith
  total_le (suc n) g h le =
      let e : g n ≤ h n = le n (omega arith) in
      omega (arith, total_le n g h (λ j lt. le j (omega arith)), mul-le-mul_left (get_or ws n 0) e)

  -- one element, taken once
  total_names : (n j : ℕ) → total ws n (names (Some j)) ≡ cond (ltb j n) (get_or ws j 0) 0
  total_names zero j = grind (arith, nat_tests)
  total_names (suc n) j =
      let r = total_names n j in
      let z = mul-zero (get_or ws n 0) in
      let o = mul-one (get_or ws n 0) in
      grind (arith, nat_tests)

  total_one : (n j : ℕ) → j < n → total ws n (names (Some j)) ≡ get_or ws j 0
  total_one n j lt = let e = total_names n j in grind (arith, nat_tests)

  -- what a link leads to
  total_link : (last k : ℕ) (l : Option ℕ) → Ahead last k l → led 0 ws l ≤ total ws (last + 1) (names l)
  total_link last k None h = omega arith
  total_link last k (Some j) h = omega (arith, total_one (last + 1) j (omega (arith, h.1)))

-- 1 for each number from k on
abbrev from : ℕ → ℕ → ℕ
from k j = cond (leb k j) 1 0

-- fewer records name j no more often
named_drop : (k : ℕ) (rs : List Record) (j : ℕ) → named (drop k rs) j ≤ named rs j
named_drop zero rs j = omega arith
named_drop (suc k) [] j = omega arith
named_drop (suc k) (r ∷ rs) j = omega (arith, named_drop k rs j)

-- a link that leads past record k names no record up to it
names_none : (last k : ℕ) (l : Option ℕ) (j : ℕ) → Ahead last k l → j ≤ k → names l j ≡ 0
names_none last k None j h le = refl
names_none last k (Some i) j h le = let lt = h.0 in grind (arith, nat_tests)

-- how often the records from record k on name record j
abbrev onward : List Record → ℕ → ℕ → ℕ → ℕ
onward rs last k j = named (drop k (take (last + 1) rs)) j

-- the sum, over the records up to the last, of the weight of record j taken g j times
abbrev weighed : List Record → ℕ → (ℕ → ℕ) → ℕ
weighed rs last g = total (weights (take (last + 1) rs)) (last + 1) g

module _ (rs : List Record) (last : ℕ) (len : last < length rs) (ok : Each last (links_ok rs last)) where
  -- what record k names, and what the records behind it name
  onward_more : (k j : ℕ) → k ≤ last
      → onward rs last k j ≡ names (at rs k).first j + names (at rs k).next j + onward rs last (suc k) j
  onward_more k j le =
      let e : at (take (last + 1) rs) k ≡ at rs k = get_or-take (last + 1) rs k blank (omega arith) in
      let lt : k < length (take (last + 1) rs) = simp length-take (omega arith) in
      rw (drop-cons (take (last + 1) rs) k blank lt, e)

  -- the records from record k on, of which there are d, weigh no more than d and what their links lead to
  weighed_from : (d k : ℕ) → d + k ≡ last + 1 → weighed rs last (from k) ≤ d + weighed rs last (onward rs last k)
  weighed_from zero k e =
      let n = last + 1 in
      omega (arith, total_le (weights (take n rs)) n (from k) (onward rs last k) (λ j lt. grind (arith, nat_tests)))
  weighed_from (suc d) k e =
      let le : k ≤ last = omega arith in
      let n = last + 1 in
      let ws = weights (take n rs) in
      let f = (at rs k).first in
      let x = (at rs k).next in
      let own = total_le ws n (from k) (λ j. names (Some k) j + from (suc k) j) (λ j lt. grind (arith, nat_tests)) in
      let links =
      total_le ws n (λ j. names f j + names x j + onward rs last (suc k) j) (onward rs last k)
      (λ j lt. omega (arith, onward_more k j le)) in
      let made = made_at (λ r down on. suc (down + on)) 0 rs last k len le (ok k le) in
      omega (
        arith,
        weighed_from d (suc k) (omega arith),
        simp total_add at own,
        simp total_add at links,
        total_one ws n k (omega arith),
        total_link ws last k f (first_ahead rs last k (ok k le)),
        total_link ws last k x (next_ahead rs last k (ok k le)),
      )

  -- the records from record k on name only records behind record k
  onward_none : (d k : ℕ) → d + k ≡ last + 1 → (j : ℕ) → j ≤ k → onward rs last k j ≡ 0
  onward_none zero k e j h =
      let past : length (take (last + 1) rs) ≤ k = simp length-take (omega arith) in
      rw (drop_of_length-le (take (last + 1) rs) past)
  onward_none (suc d) k e j h =
      let le : k ≤ last = omega arith in
      omega (
        arith,
        onward_more k j le,
        onward_none d (suc k) (omega arith) j (omega arith),
        names_none last k (at rs k).first j (first_ahead rs last k (ok k le)) h,
        names_none last k (at rs k).next j (next_ahead rs last k (ok k le)) h,
      )

  -- they name each record at most once
  onward_once : (k j : ℕ) → 1 ≤ k → k ≤ last → j < last + 1 → names (Some k) j + onward rs last k j ≤ from k j
  onward_once k j one le lt =
      let n = last + 1 in
      let once : cond (leb 2 j) (eqb (named (take n rs) j) 1) (absent (at rs j).next) ≡ true =
      and_right (forward last j (at rs j).first && forward last j (at rs j).next) _ (ok j (omega arith)) in
      let part = named_drop k (take n rs) j in
      let none : j ≤ k → onward rs last k j ≡ 0 = onward_none (n - k) k (omega arith) j in
      grind (arith, nat_tests)

  -- Record k and the records that those from k on name are apart, so its weight is at most the number of records from k on.
  pub weight_bound : (k : ℕ) → 1 ≤ k → k ≤ last → get_or (weights (take (last + 1) rs)) k 0 + k ≤ last + 1
  weight_bound k one le =
      let n = last + 1 in
      let ws = weights (take n rs) in
      let apart = total_le ws n (λ j. names (Some k) j + onward rs last k j) (from k) (λ j. onward_once k j one le) in
      omega (arith, simp total_add at apart, total_one ws n k (omega arith), weighed_from (n - k) k (omega arith))
