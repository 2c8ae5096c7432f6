-- The 24 bytes of a record: numbers stand with their high byte first.
use Rattle.std.specs.Prelude.{◌≡◌, Result, MatchResult, ℕ, ◌+◌, ◌*◌, ◌/◌, ◌%◌, ◌^◌, if◌then◌else◌, List, [], ◌∷◌, ◌++◌, Some, None, Option, ◌==◌, slice_index}
use Rattle.std.specs.Option.{option_map}
use Rattle.rule.specs.declared.kinds.Kind.{Kind}
use Rattle.rule.specs.declared.kinds.Kind.TheVariants.{Mark, NotMark, All, Any, Next, Until, Release, Eventually, Always}
use Rattle.rule.specs.declared.kinds.Record.{Record}
use Rattle.rule.specs.declared.kinds.UnknownKind.{UnknownKind}

-- the kind that a byte stands for
abbrev pub kind_of : ℕ → Option Kind
kind_of b =
    if b == 1 then Some Mark
    else if b == 2 then Some NotMark
    else if b == 3 then Some All
    else if b == 4 then Some Any
    else if b == 5 then Some Next
    else if b == 6 then Some Until
    else if b == 7 then Some Release
    else if b == 8 then Some Eventually
    else if b == 9 then Some Always
    else None

-- the result is the kind that a byte stands for, or an error that names the byte of no kind
abbrev pub IsKindOf : ℕ → Result Kind UnknownKind → Type 0
IsKindOf b r = MatchResult r (λ k. kind_of b ≡ Some k) (λ e. (kind_of b ≡ None) × (e.0 ≡ b))

-- the byte of a kind
abbrev pub code_of : Kind → ℕ
code_of Mark = 1
code_of NotMark = 2
code_of All = 3
code_of Any = 4
code_of Next = 5
code_of Until = 6
code_of Release = 7
code_of Eventually = 8
code_of Always = 9

-- the record that a link's number names: 0 names none
abbrev pub link_of : ℕ → Option ℕ
link_of n = if n == 0 then None else Some n

-- the number of a link
abbrev pub number_of : Option ℕ → ℕ
number_of None = 0
number_of (Some j) = j

-- the number of 2 bytes from place i on
abbrev pub number2 : List ℕ → ℕ → ℕ
number2 bs i = slice_index bs i * 256 + slice_index bs (i + 1)

-- the number of 8 bytes from place i on
abbrev pub number8 : List ℕ → ℕ → ℕ
number8 bs i =
    slice_index bs i * 256 ^ 7 + slice_index bs (i + 1) * 256 ^ 6 + slice_index bs (i + 2) * 256 ^ 5 + slice_index bs (i + 3) * 256 ^ 4
    + slice_index bs (i + 4) * 256 ^ 3 + slice_index bs (i + 5) * 256 ^ 2 + slice_index bs (i + 6) * 256 + slice_index bs (i + 7)

-- the record of a known kind that 24 bytes hold: byte 1 the mark, 2 the clock, 3 reserved, and from byte 4 on
-- first (2 bytes), next (2 bytes), lower (8 bytes) and upper (8 bytes)
abbrev pub fields_of : List ℕ → Kind → Record
fields_of bs k =
    record {
      kind = k;
      mark = slice_index bs 1;
      clock = slice_index bs 2;
      reserved = slice_index bs 3;
      first = link_of (number2 bs 4);
      next = link_of (number2 bs 6);
      lower = number8 bs 8;
      upper = number8 bs 16;
    }

-- the record that 24 bytes hold, where byte 0 is a known kind
abbrev pub record_of : List ℕ → Option Record
record_of bs = option_map (fields_of bs) (kind_of (slice_index bs 0))

-- a number as 2 bytes, and as 8
abbrev pub bytes2 : ℕ → List ℕ
bytes2 n = (n / 256 % 256) ∷ (n % 256) ∷ []

abbrev pub bytes8 : ℕ → List ℕ
bytes8 n =
    (n / 256 ^ 7 % 256) ∷ (n / 256 ^ 6 % 256) ∷ (n / 256 ^ 5 % 256) ∷ (n / 256 ^ 4 % 256) ∷ (n / 256 ^ 3 % 256)
    ∷ (n / 256 ^ 2 % 256) ∷ (n / 256 % 256) ∷ (n % 256) ∷ []

-- the 24 bytes of a record
abbrev pub bytes_of : Record → List ℕ
bytes_of r =
    code_of r.kind ∷ r.mark ∷ r.clock ∷ r.reserved
    ∷ (bytes2 (number_of r.first) ++ (bytes2 (number_of r.next) ++ (bytes8 r.lower ++ bytes8 r.upper)))
