-- What is printed where an order is not understood or not carried out.
use Rattle.std.specs.Prelude.{ℕ, List, ◌++◌, codes}
use Rattle.std.specs.Fmt.{decimal}
use Rattle.commands.specs.Messages.{misread_text, number_fault_text}
use Rattle.formats.specs.Texts.{settings_refusal_text, write_refusal_text}
use Rattle.hearing.specs.Texts.{receiver_refusal_text}
use Rattle.desk.specs.Answers.{refusal_number}
use Rattle.desk.specs.declared.answer.DeskRefusal.{DeskRefusal}
use Rattle.desk.specs.declared.answer.DeskRefusal.TheVariants.{Settings, Receiver, Write}
use Rattle.desk.specs.declared.answer.Undone.{Undone}
use Rattle.desk.specs.declared.answer.Undone.TheVariants.{Refused, NoFormat, NoMemory}
use Rattle.desk.specs.declared.misread.DeskMisread.{DeskMisread}
use Rattle.desk.specs.declared.misread.DeskMisread.TheVariants.{Words, BadKind}

abbrev pub refusal_reason : DeskRefusal → List ℕ
refusal_reason (Settings e) = settings_refusal_text e
refusal_reason (Receiver e) = receiver_refusal_text e
refusal_reason (Write e) = write_refusal_text e

-- a refusal by its number and its reason
abbrev pub undone_text : Undone → List ℕ
undone_text (Refused e) = codes "refused " ++ (decimal (refusal_number e) ++ (codes ": " ++ refusal_reason e))
undone_text NoFormat = codes "error: no format, choose ft12 or ft2"
undone_text NoMemory = codes "error: no memory"

abbrev pub desk_misread_text : DeskMisread → List ℕ
desk_misread_text (Words misread) = misread_text misread
desk_misread_text (BadKind fault) = codes "error: " ++ (number_fault_text fault ++ codes ", 0 to 255")
