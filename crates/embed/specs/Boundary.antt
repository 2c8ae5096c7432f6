-- What a call from C leaves in its output buffer.
use Rattle.std.specs.Prelude.{List, ◌++◌, ◌⊎◌, ◌≡◌, ℕ, ◌<◌, length, drop}

-- the line lies at the buffer's front and its length is answered, or the buffer is too short for it, stays whole, and 0 is answered
abbrev pub Leaves : List ℕ → ℕ → List ℕ → List ℕ → Type 0
Leaves line n before after =
    ((n ≡ length line) × (after ≡ line ++ drop n before)) ⊎ ((n ≡ 0) × (length before < length line) × (after ≡ before))
