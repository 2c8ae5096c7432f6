-- The 16 bytes of a trace record, and a whole trace: numbers stand with their high byte first.
use Rattle.std.specs.Prelude.{ℕ, ◌+◌, ◌*◌, ◌/◌, ◌%◌, ◌^◌, ◌&&◌, if◌then◌else◌, List, take, drop, Some, None, Option, ◌==◌, nat_le, slice_index}
use Rattle.rule.specs.Layout.{number8}
use Rattle.watch.specs.declared.calls.Call.{Call}
use Rattle.watch.specs.declared.calls.Call.TheVariants.{Advance, Observe}

-- the number of 4 bytes from place i on
abbrev pub number4 : List ℕ → ℕ → ℕ
number4 bs i = slice_index bs i * 256 ^ 3 + slice_index bs (i + 1) * 256 ^ 2 + slice_index bs (i + 2) * 256 + slice_index bs (i + 3)

-- the call of a kind: 1 is an advance, which uses clock and amount, 2 an observation, which uses marks; a field that the kind
-- does not use is zero
abbrev pub call_from : ℕ → ℕ → ℕ → ℕ → Option Call
call_from kind clock marks amount =
    if kind == 1 && marks == 0 then Some (Advance clock amount)
    else if kind == 2 && (clock == 0 && amount == 0) then Some (Observe marks)
    else None

-- the call that 16 bytes say: byte 0 the kind, 1 the clock, 2 and 3 zero, and from byte 4 on marks (4 bytes) and amount
-- (8 bytes)
abbrev pub call_of : List ℕ → Option Call
call_of bs =
    if slice_index bs 2 == 0 && slice_index bs 3 == 0
    then call_from (slice_index bs 0) (slice_index bs 1) (number4 bs 4) (number8 bs 8)
    else None

-- the bytes of record k
abbrev pub record_at : List ℕ → ℕ → List ℕ
record_at trace k = take 16 (drop (16 * k) trace)

-- the number of records in a trace of n bytes: a trace has up to 2,048 records of 16 bytes
abbrev pub count_of : ℕ → Option ℕ
count_of n = if nat_le n 32768 && n % 16 == 0 then Some (n / 16) else None
