-- What is printed of the types of this crate.
use Rattle.std.specs.Prelude.{ℕ, List, codes}
use Rattle.rule.specs.declared.faults.Layer.{Layer}
use Rattle.rule.specs.declared.faults.Layer.TheVariants.{Book, Trace, Watch}

-- a layer's name
abbrev pub layer_name : Layer → List ℕ
layer_name Book = codes "book"
layer_name Trace = codes "trace"
layer_name Watch = codes "watch"
