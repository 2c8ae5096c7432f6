-- What makes the records of a rule lawful.
use Rattle.std.specs.Prelude.{◌≡◌, ℕ, suc, ◌+◌, ◌-◌, ◌<◌, ◌≤◌, Bool, true, false, if◌then◌else◌, ◌&&◌, List, [], ◌∷◌, take, Some, None, Option, ◌==◌, nat_le, nat_lt, slice_index_or}
use Rattle.rule.specs.declared.kinds.Kind.{Kind}
use Rattle.rule.specs.declared.kinds.Kind.TheVariants.{Mark, NotMark, All, Any, Next, Until, Release, Eventually, Always}
use Rattle.rule.specs.declared.kinds.Record.{Record}
use Rattle.rule.specs.declared.faults.Condition.{Condition}
use Rattle.rule.specs.declared.faults.Condition.TheVariants.{Kinds, Fields, Windows, Links, Operands}

-- mark 0, in a chain of its own: what stands where a rule has no record
abbrev pub blank : Record
blank = record { kind = Mark; mark = 0; clock = 0; reserved = 0; first = None; next = None; lower = 0; upper = 0 }

-- record k
abbrev pub at : List Record → ℕ → Record
at rs k = slice_index_or rs k blank

-- ---- fields

-- a kind uses the mark; every other kind has operands
abbrev pub marked : Kind → Bool
marked Mark = true
marked NotMark = true
marked All = false
marked Any = false
marked Next = false
marked Until = false
marked Release = false
marked Eventually = false
marked Always = false

-- a kind has a window on a clock
abbrev pub windowed : Kind → Bool
windowed Mark = false
windowed NotMark = false
windowed All = false
windowed Any = false
windowed Next = false
windowed Until = true
windowed Release = true
windowed Eventually = true
windowed Always = true

-- a link that names no record
abbrev pub absent : Option ℕ → Bool
absent None = true
absent (Some j) = false

-- a number at most n where it is used, and else 0
abbrev pub used : Bool → ℕ → ℕ → Bool
used u n x = nat_le x (if u then n else 0)

-- the mark is at most 31 and the clock at most 7; the reserved byte and each field that the kind does not use are zero
abbrev pub fields_ok : Record → Bool
fields_ok r =
    used (marked r.kind) 31 r.mark
    && used (windowed r.kind) 7 r.clock
    && r.reserved == 0
    && (if marked r.kind then absent r.first else true)
    && (if windowed r.kind then true else r.lower == 0 && r.upper == 0)

-- ---- windows

-- the lower end is not above the upper end, which is at most 1,000,000,000,000
abbrev pub window_ok : Record → Bool
window_ok r = nat_le r.lower r.upper && nat_le r.upper 1000000000000

-- ---- links

-- a link of record k leads forward, and inside the book
abbrev pub forward : ℕ → ℕ → Option ℕ → Bool
forward last k None = true
forward last k (Some j) = nat_lt k j && nat_le j last

-- how often a link names record k
abbrev pub names : Option ℕ → ℕ → ℕ
names None k = 0
names (Some j) k = if j == k then 1 else 0

-- how often the links of these records name record k
abbrev pub named : List Record → ℕ → ℕ
named [] k = 0
named (r ∷ rs) k = names r.first k + names r.next k + named rs k

-- both links of record k lead forward inside the book; from record 2 on it is named once, and before that it has no next
abbrev pub links_ok : List Record → ℕ → ℕ → Bool
links_ok rs last k =
    forward last k (at rs k).first
    && forward last k (at rs k).next
    && (if nat_le 2 k then named (take (last + 1) rs) k == 1 else absent (at rs k).next)

-- ---- operands

-- where a link of record k leads, in a list that begins behind record k
abbrev pub beyond : {X : Type 0} → X → ℕ → List X → Option ℕ → X
beyond none k later None = none
beyond none k later (Some j) = slice_index_or later (j - suc k) none

-- Something for each of the records k, k + 1, .., made from the last one back: for each record, of what stands
-- where its first link leads and of what stands where its next link leads.
abbrev pub back : {X : Type 0} → (Record → X → X → X) → X → ℕ → List Record → List X
back make none k [] = []
back make none k (r ∷ rs) =
    let later = back make none (suc k) rs in
    make r (beyond none k later r.first) (beyond none k later r.next) ∷ later

-- where a link leads, in a list with something for each record
abbrev pub led : {X : Type 0} → X → List X → Option ℕ → X
led none all None = none
led none all (Some j) = slice_index_or all j none

-- for each record, how many records stand in the chain that begins with it and goes on by next
abbrev pub spans : List Record → List ℕ
spans rs = back (λ r down on. suc on) 0 0 rs

-- the number of operands of record k
abbrev pub operands : List Record → ℕ → ℕ → ℕ
operands rs last k = led 0 (spans (take (last + 1) rs)) (at rs k).first

-- the number of operands that a kind has: marks none, all and any two or more, until and release two, the others one
abbrev pub count_ok : Kind → ℕ → Bool
count_ok Mark n = n == 0
count_ok NotMark n = n == 0
count_ok All n = nat_le 2 n
count_ok Any n = nat_le 2 n
count_ok Next n = n == 1
count_ok Until n = n == 2
count_ok Release n = n == 2
count_ok Eventually n = n == 1
count_ok Always n = n == 1

-- record k has the number of operands of its kind
abbrev pub operands_ok : List Record → ℕ → ℕ → Bool
operands_ok rs last k = count_ok (at rs k).kind (operands rs last k)

-- ---- all of them

-- record k keeps a condition; a record's kind is always known
abbrev pub holds : Condition → List Record → ℕ → ℕ → Bool
holds Kinds rs last k = true
holds Fields rs last k = fields_ok (at rs k)
holds Windows rs last k = window_ok (at rs k)
holds Links rs last k = links_ok rs last k
holds Operands rs last k = operands_ok rs last k

-- each record up to the last
abbrev pub Each : ℕ → (ℕ → Bool) → Type 0
Each last p = (k : ℕ) → k ≤ last → p k ≡ true

-- a lawful rule: each record up to the last keeps each condition
abbrev pub Lawful : List Record → ℕ → Type 0
Lawful rs last = (c : Condition) → Each last (holds c rs last)

-- chains are counted only where links are known to lead forward
abbrev pub Countable : Condition → List Record → ℕ → Type 0
Countable Kinds rs last = Unit {0}
Countable Fields rs last = Unit {0}
Countable Windows rs last = Unit {0}
Countable Links rs last = Unit {0}
Countable Operands rs last = Each last (holds Links rs last)

-- the places without a record are blank: place 0, and those past the last record
abbrev pub Bare : List Record → ℕ → Type 0
Bare rs last = (at rs 0 ≡ blank) × ((k : ℕ) → last < k → at rs k ≡ blank)
