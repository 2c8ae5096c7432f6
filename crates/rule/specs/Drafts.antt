-- A draft: the places of a rule, as a book fills them.
use Rattle.std.specs.Prelude.{◌≡◌, ℕ, ◌+◌, ◌*◌, List, length, Some}
use Rattle.rule.specs.declared.draft.Draft.{Draft}
use Rattle.rule.specs.declared.faults.Condition.TheVariants.{Kinds}
use Rattle.rule.specs.Books.{last_of, records_of, Kept}

-- the draft holds what a book of known kinds says
pub record IsDraftOf (book : List ℕ) (d : Draft) : Type 0 where
  pub sized : last_of (length book) ≡ Some d.last
  pub long : length book ≡ 24 * (d.last + 1)
  pub holds : d.records ≡ records_of book d.last
  pub known : Kept book d.last Kinds
