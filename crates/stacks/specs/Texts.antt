-- What layers and records are called where they are printed.
use Rattle.std.specs.Prelude.{ℕ, List, codes}
use Rattle.stacks.specs.declared.layer.Layer.{Layer}
use Rattle.stacks.specs.declared.layer.Layer.TheVariants.{Reversal, Sampling}
use Rattle.stacks.specs.declared.record.RecordKind.{RecordKind}
use Rattle.stacks.specs.declared.record.RecordKind.TheVariants.{Marks, Characters}

abbrev pub layer_name : Layer → List ℕ
layer_name Reversal = codes "reversal"
layer_name Sampling = codes "sampling"

abbrev pub kind_name : RecordKind → List ℕ
kind_name Marks = codes "marks"
kind_name Characters = codes "characters"
