-- Books: bytes that say a rule, and when a book is refused.
use Rattle.std.specs.Prelude.{◌≡◌, ℕ, zero, suc, ◌+◌, ◌-◌, ◌*◌, ◌/◌, ◌%◌, ◌<◌, ◌≤◌, Bool, false, ◌&&◌, List, [], ◌++◌, map, length, take, drop, replicate, is_some, Some, None, Option, ◌==◌, nat_le, nat_lt, slice_index, if◌then◌else◌}
use Rattle.std.specs.List.{range_with_len, list_all}
use Rattle.std.specs.Bool.{then_some}
use Rattle.std.specs.Option.{unwrap_or}
use Rattle.rule.specs.declared.faults.Condition.{Condition}
use Rattle.rule.specs.declared.faults.Condition.TheVariants.{Kinds, Fields, Windows, Links, Operands}
use Rattle.rule.specs.declared.kinds.Record.{Record}
use Rattle.rule.specs.Layout.{kind_of, record_of, bytes_of}
use Rattle.rule.specs.Conditions.{Each, blank, at}
use Rattle.rule.specs.Conditions

-- ---- what the bytes of a book say

-- the last record's number in a book of n bytes: a book has 2 to 64 records of 24 bytes
abbrev pub last_of : ℕ → Option ℕ
last_of n = if nat_le 48 n && nat_le n 1536 && n % 24 == 0 then Some (n / 24 - 1) else None

-- the bytes of record k
abbrev pub part : List ℕ → ℕ → List ℕ
part book k = take 24 (drop (24 * k) book)

-- every byte is zero
abbrev pub all_zero : List ℕ → Bool
all_zero = list_all (λ b. b == 0)

-- what stands in place k of a rule by the bytes of record k, where they say something: place 0 is blank, its bytes all zero
abbrev pub place_said : List ℕ → ℕ → Option Record
place_said bytes k = if k == 0 then then_some (all_zero bytes) blank else record_of bytes

-- what stands in place k: a record of those below `top` as its bytes say, and elsewhere the blank record
unfoldable pub place : List ℕ → ℕ → ℕ → Record
place book top k = if nat_lt 0 k && nat_lt k top then unwrap_or (record_of (part book k)) blank else blank

-- the 64 places of a rule whose book has the last record `last`
unfoldable pub records_of : List ℕ → ℕ → List Record
records_of book last = map (place book (last + 1)) (range_with_len 0 64)

-- ---- when a book is refused

-- record 0 is all zero, and every other record has a known kind
abbrev pub kind_ok : List ℕ → ℕ → Bool
kind_ok book k = if k == 0 then all_zero (part book 0) else is_some (kind_of (slice_index (part book k) 0))

-- record k of a book keeps a condition
abbrev pub keeps : Condition → List ℕ → ℕ → ℕ → Bool
keeps Kinds book last k = kind_ok book k
keeps Fields book last k = Conditions.holds Fields (records_of book last) last k
keeps Windows book last k = Conditions.holds Windows (records_of book last) last k
keeps Links book last k = Conditions.holds Links (records_of book last) last k
keeps Operands book last k = Conditions.holds Operands (records_of book last) last k

-- the refusal number of a condition; they are asked in this order
abbrev pub number_for : Condition → ℕ
number_for Kinds = 2
number_for Fields = 3
number_for Windows = 4
number_for Links = 5
number_for Operands = 6

-- each record keeps the condition
abbrev pub Kept : List ℕ → ℕ → Condition → Type 0
Kept book last c = Each last (keeps c book last)

-- each record keeps each condition that is asked before the one numbered n
abbrev pub KeptBefore : List ℕ → ℕ → ℕ → Type 0
KeptBefore book last n = (c : Condition) → number_for c < n → Kept book last c

-- the book is accepted: its last record is `last`, and every record keeps every condition
pub record Accepted (book : List ℕ) (last : ℕ) : Type 0 where
  pub sized : last_of (length book) ≡ Some last
  pub kept : (c : Condition) → Kept book last c

-- the book is refused with a number and a record: by its length, or by a condition that this record breaks while
-- each condition before it is kept by every record
pub data Refused (book : List ℕ) : ℕ → ℕ → Type 0 where
  by_length : last_of (length book) ≡ None → Refused book 1 0
  by_condition : {last k : ℕ} → (c : Condition) → last_of (length book) ≡ Some last → KeptBefore book last (number_for c)
      → k ≤ last → keeps c book last k ≡ false → Refused book (number_for c) k

-- ---- the bytes that are written for a rule

-- the bytes of a record that stands at place k of a book: record 0 is 24 zero bytes
abbrev pub bytes_said : ℕ → Record → List ℕ
bytes_said k r = if k == 0 then replicate 24 0 else bytes_of r

-- the bytes of record k of these
abbrev pub written_at : List Record → ℕ → List ℕ
written_at rs k = bytes_said k (at rs k)

-- the bytes of the records below n, one after the other
unfoldable pub written_below : List Record → ℕ → List ℕ
written_below rs zero = []
written_below rs (suc n) = written_below rs n ++ written_at rs n

-- the book of a rule
abbrev pub written : List Record → ℕ → List ℕ
written rs last = written_below rs (last + 1)

-- ---- there and back

-- the book is accepted, and the records that it holds are those of the rule
pub record Says (book : List ℕ) (rs : List Record) (last : ℕ) : Type 0 where
  pub accepted : Accepted book last
  pub holds : records_of book last ≡ rs
