-- Refusals as a user sees them: a number, the layer that refused, and the record that is named.
use Rattle.std.specs.Prelude.{ℕ, List}
use Rattle.rule.specs.declared.faults.BookFault.{BookFault}
use Rattle.rule.specs.declared.faults.BookFault.TheVariants.{Length, Broken}
use Rattle.rule.specs.declared.faults.BufferFault.{BufferFault}
use Rattle.rule.specs.declared.faults.BufferFault.TheVariants.{TooShort}
use Rattle.rule.specs.declared.faults.Layer.TheVariants.{Book}
use Rattle.rule.specs.declared.faults.Refusal.{Refusal}
use Rattle.rule.specs.Books.{Refused, number_for}

-- a book's refusal: by its length 1 at record 0, by a condition that condition's number at the record that breaks it
abbrev pub book_refusal : BookFault → Refusal
book_refusal Length = record { number = 1; layer = Book; «record» = 0 }
book_refusal (Broken c k) = record { number = number_for c; layer = Book; «record» = k }

-- the book is refused, and the fault says so
abbrev pub RefusedAs : List ℕ → BookFault → Type 0
RefusedAs book f = Refused book (book_refusal f).number (book_refusal f).«record»

-- a buffer that is too short: 7
abbrev pub buffer_number : BufferFault → ℕ
buffer_number TooShort = 7
