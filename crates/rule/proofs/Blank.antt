-- The new rule: every place is blank.
use Rattle.std.proofs.Common.{◌≡◌, ℕ, zero, suc, replicate, refl, arith}
use Rattle.rule.specs.declared.faults.Condition.TheVariants.{Kinds, Fields, Windows, Links, Operands}
use Rattle.rule.specs.Conditions.{blank, at, Lawful, Bare}

pub blank_at : (n k : ℕ) → at (replicate n blank) k ≡ blank
blank_at zero k = refl
blank_at (suc n) zero = refl
blank_at (suc n) (suc k) = blank_at n k

pub blank_lawful : Lawful (replicate 64 blank) 1
blank_lawful Kinds k h = refl
blank_lawful Fields zero h = refl
blank_lawful Fields (suc zero) h = refl
blank_lawful Fields (suc (suc k)) h = absurd (omega arith)
blank_lawful Windows zero h = refl
blank_lawful Windows (suc zero) h = refl
blank_lawful Windows (suc (suc k)) h = absurd (omega arith)
blank_lawful Links zero h = refl
blank_lawful Links (suc zero) h = refl
blank_lawful Links (suc (suc k)) h = absurd (omega arith)
blank_lawful Operands zero h = refl
blank_lawful Operands (suc zero) h = refl
blank_lawful Operands (suc (suc k)) h = absurd (omega arith)

pub blank_bare : Bare (replicate 64 blank) 1
blank_bare = (refl, λ k h. blank_at 64 k)
