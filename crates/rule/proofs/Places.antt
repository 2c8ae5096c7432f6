-- The 64 places, as they are filled.
use Rattle.std.proofs.Common.{◌≡◌, ℕ, zero, suc, ◌+◌, ◌<◌, ◌≤◌, Bool, true, false, ◌&&◌, eqb, ltb, ◌⊎◌, List, length, get_or, set, is_some, Some, None, Option, sym, refl, ap, ◌∙◌, subst, inl, inr, arith, get_or-set_other, get_or-set_same, ltb-false, ltb-true, le-ltb, lt-ltb, ne_eqb, eqb-true}
use borrow.Author.Tests.{eqb-false}
use Rattle.std.proofs.lemmas.List.FromFn.{fill_by_all, get_or-map-range_with_len, length-map-range_with_len}
use Rattle.std.proofs.lemmas.List.{get_or_past}
use Rattle.std.specs.Option.{option_map}
use Rattle.std.specs.Bool.{then_some}
use Rattle.rule.specs.declared.kinds.Kind.{Kind}
use Rattle.rule.specs.declared.kinds.Record.{Record}
use Rattle.rule.specs.Layout.{kind_of, record_of, fields_of}
use Rattle.rule.specs.Conditions.{blank, at, Bare}
use Rattle.rule.specs.Books.{place, place_said, all_zero, records_of, part, kind_ok}

pub either : (b : Bool) → (b ≡ true) ⊎ (b ≡ false)
either true = inl refl
either false = inr refl

and_false : (b : Bool) → (b && false) ≡ false
and_false true = refl
and_false false = refl

pub place_front : (book : List ℕ) (j : ℕ) → place book 0 j ≡ blank
unfolding place
place_front book j = let n : ltb j 0 ≡ false = le-ltb j 0 (omega arith) in rw (n, and_false (ltb 0 j))

pub place_none : (book : List ℕ) (j : ℕ) → place book 1 j ≡ blank
unfolding place
place_none book j =
    elim (either (eqb j 0)) [
      | inl e ↦ (let z : j ≡ 0 = eqb-true j 0 e in let n : ltb 0 j ≡ false = le-ltb 0 j (omega arith) in rw n)
      | inr e ↦ (let n : ltb j 1 ≡ false = le-ltb j 1 (omega (arith, eqb-false j 0 e)) in rw (n, and_false (ltb 0 j)))
    ]

-- a place that is filled
pub place_is : (book : List ℕ) (top k : ℕ) (r : Record) → 1 ≤ k → k < top → record_of (part book k) ≡ Some r → place book top k ≡ r
unfolding place
place_is book top k r lo hi e =
    let a : ltb 0 k ≡ true = lt-ltb 0 k (omega arith) in
    let b : ltb k top ≡ true = lt-ltb k top hi in
    rw (a, b, e)

-- the others stay
place_off : (book : List ℕ) (k j : ℕ) → (j ≡ k → ⊥) → place book (k + 1) j ≡ place book k j
unfolding place
place_off book k j ne =
    elim (either (ltb j k)) [
      | inl e ↦ (let b : ltb j (k + 1) ≡ true = lt-ltb j (k + 1) (omega (arith, ltb-true j k e)) in rw (b, e))
      | inr e ↦ (let b : ltb j (k + 1) ≡ false = le-ltb j (k + 1) (omega (arith, ltb-false j k e, ne)) in rw (b, e))
    ]

pub places_more : (book : List ℕ) (rs : List Record) (k : ℕ) (r : Record) → length rs ≡ 64 → 1 ≤ k → k < 64
    → record_of (part book k) ≡ Some r → ((j : ℕ) → j < 64 → get_or rs j blank ≡ place book k j)
    → (j : ℕ) → j < 64 → get_or (set rs k r) j blank ≡ place book (k + 1) j
places_more book rs k r len lo hi e old j h =
    elim (either (eqb j k)) [
      | inl q ↦ (
          let p : j ≡ k = eqb-true j k q in
          let lt : k < length rs = omega arith in
          let s : get_or (set rs k r) k blank ≡ place book (k + 1) k =
          get_or-set_same rs k r blank lt ∙ sym (place_is book (k + 1) k r lo (omega arith) e) in
          subst (λ (i : ℕ). get_or (set rs k r) i blank ≡ place book (k + 1) i) (sym p) s)
      | inr q ↦ (
          let ne = eqb-false j k q in
          get_or-set_other rs k j r blank ne ∙ old j h ∙ sym (place_off book k j ne))
    ]

-- behind place 0 a book's bytes say a record
said_behind : (bs : List ℕ) (k : ℕ) → place_said bs (suc k) ≡ record_of bs
said_behind bs k = let n : eqb (suc k) 0 ≡ false = ne_eqb (suc k) 0 (omega arith) in rw n

-- a place that is filled by what a book says of it
pub places_said : (book : List ℕ) (rs : List Record) (k : ℕ) (r : Record) → length rs ≡ 64 → k < 64 → place_said (part book k) k ≡ Some r
    → ((j : ℕ) → j < 64 → get_or rs j blank ≡ place book k j) → (j : ℕ) → j < 64 → get_or (set rs k r) j blank ≡ place book (k + 1) j
places_said book rs zero r len h said old = go (all_zero (part book 0)) said
  where
    go : (t : Bool) → then_some t blank ≡ Some r → (j : ℕ) → j < 64 → get_or (set rs 0 r) j blank ≡ place book 1 j
    go false e j h = (let z : ◌≡◌ {A = ℕ} 0 1 = cc in absurd (omega arith))
    go true e zero h = (let q : blank ≡ r = cc in get_or-set_same rs 0 r blank (omega arith) ∙ sym q ∙ sym (place_none book 0))
    go true e (suc j) h = get_or-set_other rs 0 (suc j) r blank (omega arith) ∙ old (suc j) h ∙ place_front book (suc j) ∙ sym (place_none book (suc j))
places_said book rs (suc k) r len h said old = places_more book rs (suc k) r len (omega arith) h (sym (said_behind (part book (suc k)) k) ∙ said) old

pub places_all : (book : List ℕ) (rs : List Record) (last : ℕ) → length rs ≡ 64
    → ((j : ℕ) → j < 64 → get_or rs j blank ≡ place book (last + 1) j) → rs ≡ records_of book last
unfolding records_of
places_all book rs last len h = fill_by_all (place book (last + 1)) rs 64 blank len h

pub records_of-at : (book : List ℕ) (last k : ℕ) → k < 64 → at (records_of book last) k ≡ place book (last + 1) k
unfolding records_of
records_of-at book last k h = get_or-map-range_with_len (place book (last + 1)) 0 64 k k blank h (omega arith)

pub length-records_of : (book : List ℕ) (last : ℕ) → length (records_of book last) ≡ 64
unfolding records_of
length-records_of book last = length-map-range_with_len (place book (last + 1)) 0 64

place_past : (book : List ℕ) (last k : ℕ) → last < k → place book (last + 1) k ≡ blank
unfolding place
place_past book last k h = let n : ltb k (last + 1) ≡ false = le-ltb k (last + 1) (omega arith) in rw (n, and_false (ltb 0 k))

pub bare_records : (book : List ℕ) (last : ℕ) → Bare (records_of book last) last
unfolding place
bare_records book last = (records_of-at book last 0 (omega arith), λ k h. go k h (ltb k 64) refl)
  where
    go : (k : ℕ) → last < k → (t : Bool) → ltb k 64 ≡ t → at (records_of book last) k ≡ blank
    go k h true e = records_of-at book last k (ltb-true k 64 e) ∙ place_past book last k h
    go k h false e = get_or_past (records_of book last) k blank (let a = ltb-false k 64 e in let b = length-records_of book last in omega arith)

-- a record is read just where its kind is known
known : (bs : List ℕ) (o : Option Kind) → is_some o ≡ is_some (option_map (fields_of bs) o)
known bs None = refl
known bs (Some k) = refl

pub kind_known : (book : List ℕ) (k : ℕ) → 1 ≤ k → kind_ok book k ≡ is_some (record_of (part book k))
kind_known book k h =
    let n : eqb k 0 ≡ false = ne_eqb k 0 (omega arith) in
    rw n (known (part book k) (kind_of (get_or (part book k) 0 0)))

pub kinds_more : (book : List ℕ) (k : ℕ) (r : Record) → 1 ≤ k → record_of (part book k) ≡ Some r
    → ((j : ℕ) → j < k → kind_ok book j ≡ true) → (j : ℕ) → j < k + 1 → kind_ok book j ≡ true
kinds_more book k r lo e below j h =
    elim (either (eqb j k)) [
      | inl q ↦ subst (λ (i : ℕ). kind_ok book i ≡ true) (sym (eqb-true j k q)) (kind_known book k lo ∙ ap is_some e)
      | inr q ↦ below j (omega (arith, eqb-false j k q))
    ]

-- a place that a book says something of is of a known kind
pub kinds_said : (book : List ℕ) (k : ℕ) (r : Record) → place_said (part book k) k ≡ Some r
    → ((j : ℕ) → j < k → kind_ok book j ≡ true) → (j : ℕ) → j < k + 1 → kind_ok book j ≡ true
kinds_said book zero r said below j h = go (all_zero (part book 0)) refl said
  where
    go : (t : Bool) → all_zero (part book 0) ≡ t → then_some t blank ≡ Some r → kind_ok book j ≡ true
    go false a e = (let z : ◌≡◌ {A = ℕ} 0 1 = cc in absurd (omega arith))
    go true a e = (let z : 0 ≡ j = omega arith in subst (λ (i : ℕ). kind_ok book i ≡ true) z a)
kinds_said book (suc k) r said below j h = kinds_more book (suc k) r (omega arith) (sym (said_behind (part book (suc k)) k) ∙ said) below j h
