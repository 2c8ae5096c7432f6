-- Formulas: nine kinds, four of them with a window on a clock.
use Rattle.std.specs.Prelude.{ℕ, Bool, false, ◌≡◌, nat_lt}

-- the readings of a clock from lower to upper, both ends belonging to the window
pub record Window : Type 0 where
  pub clock : ℕ
  pub lower : ℕ
  pub upper : ℕ

-- a reading lies before the window
abbrev pub before : Window → ℕ → Bool
before w x = nat_lt x w.lower

-- a reading lies past the window
abbrev pub past : Window → ℕ → Bool
past w x = nat_lt w.upper x

-- a reading lies inside the window: neither before it nor past it
abbrev pub Inside : Window → ℕ → Type 0
Inside w x = (before w x ≡ false) × (past w x ≡ false)

mutual
  -- the nine kinds of formula: five here, and four with a window; a mark is named by its number
  pub data Formula : Type 0 where
    mark : ℕ → Formula
    not_mark : ℕ → Formula
    all : Operands → Formula
    any : Operands → Formula
    next : Formula → Formula
    timed : Timed → Formula

  -- operands in their order; a rule's all and any have two or more. A list type of its own, since antt takes no `List` of a
  -- type inside its own declaration
  pub data Operands : Type 0 where
    none : Operands
    more : Formula → Operands → Operands

  -- the kinds with a window; until and release have a left and a right operand
  pub data Timed : Type 0 where
    until : Window → Formula → Formula → Timed
    release : Window → Formula → Formula → Timed
    eventually : Window → Formula → Timed
    always : Window → Formula → Timed
