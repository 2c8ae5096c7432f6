-- The lines that the program prints, byte for byte.
use Rattle.std.specs.Prelude.{◌≡◌, ℕ, ◌<◌, List, [], ◌∷◌, ◌++◌, length, drop, Ok, Err, codes, decimal, Result, MatchResult}
use Rattle.rule.specs.declared.faults.BufferFault.{BufferFault}
use Rattle.rule.specs.declared.faults.Refusal.{Refusal}
use Rattle.rule.specs.Faults.{buffer_number}
use Rattle.rule.specs.Printing.{layer_name}
use Rattle.watch.specs.Printing.{verdict_name}
use Rattle.trace.specs.declared.faults.Followed.{Followed}
use Rattle.trace.specs.declared.faults.FollowFault.{FollowFault}
use Rattle.trace.specs.Faults.{follow_refusal}

-- a refusal: refused=2 layer=book record=3 and a line feed
abbrev pub refusal_line : Refusal → List ℕ
refusal_line r =
    codes "refused=" ++ (decimal r.number ++ (codes " layer=" ++ (layer_name r.layer
    ++ (codes " record=" ++ (decimal r.«record» ++ 10 ∷ [])))))

-- a trace that was followed to its end: verdict=false records=2 cells=0 and a line feed
abbrev pub followed_line : Followed → List ℕ
followed_line x =
    codes "verdict=" ++ (verdict_name x.verdict ++ (codes " records=" ++ (decimal x.records
    ++ (codes " cells=" ++ (decimal x.cells ++ 10 ∷ [])))))

-- what came of following a trace: an answer, or a refusal
abbrev pub follow_line : Result Followed FollowFault → List ℕ
follow_line (Ok x) = followed_line x
follow_line (Err w) = refusal_line (follow_refusal w)

-- a line is written at the front of a buffer, and its length answered; or the buffer is too short, which is refused with 7,
-- and stays whole
abbrev pub Writes : List ℕ → Result ℕ BufferFault → List ℕ → List ℕ → Type 0
Writes line r before after =
    MatchResult r (λ n. (n ≡ length line) × (after ≡ line ++ drop n before))
    (λ f. (buffer_number f ≡ 7) × (length before < length line) × (after ≡ before))
