-- What is printed where a line of text is not understood.
use Rattle.std.specs.Prelude.{ℕ, List, ◌++◌, codes}
use Rattle.commands.specs.declared.misread.Misread.{Misread}
use Rattle.commands.specs.declared.misread.Misread.TheVariants.{UnknownCommand, BadOctet, BadNumber, ExtraWord, NoMemory}
use Rattle.commands.specs.declared.misread.NumberFault.{NumberFault}
use Rattle.commands.specs.declared.misread.NumberFault.TheVariants.{Missing, NotDecimal, TooLarge}

abbrev pub number_fault_text : NumberFault → List ℕ
number_fault_text Missing = codes "missing number"
number_fault_text (NotDecimal word) = codes "bad number " ++ word.now
number_fault_text (TooLarge word) = codes "number " ++ (word.now ++ codes " out of range")

abbrev pub misread_text : Misread → List ℕ
misread_text (UnknownCommand word) = codes "error: unknown command " ++ (word.now ++ codes ", see help")
misread_text (BadOctet word) = codes "error: bad octet " ++ (word.now ++ codes ", an octet is two hex digits")
misread_text (BadNumber fault) = codes "error: " ++ (number_fault_text fault ++ codes ", 0 to 65535")
misread_text (ExtraWord word) = codes "error: extra word " ++ word.now
misread_text NoMemory = codes "error: no memory"
