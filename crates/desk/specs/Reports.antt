-- What is printed of an answer.
use Rattle.std.specs.Prelude.{ℕ, ◌/◌, ◌%◌, true, List, [], ◌∷◌, ◌++◌, codes, flat_map, length, take}
use Rattle.std.specs.Fmt.{decimal, digit_glyph}
use Rattle.formats.specs.Texts.{layer_text}
use Rattle.hearing.specs.Texts.{standing_text}
use Rattle.hearing.specs.declared.answer.Ending.{Ending}
use Rattle.hearing.specs.declared.answer.Ending.TheVariants as ending
use Rattle.hearing.specs.declared.fault.ToldFault.{ToldFault}
use Rattle.lines.specs.Records.{mark_of}
use Rattle.lines.specs.Texts.{mark_text}
use Rattle.desk.specs.declared.answer.DeskAnswer.{DeskAnswer}
use Rattle.desk.specs.declared.answer.DeskAnswer.TheVariants as answer

-- what ended a listen
abbrev pub ending_text : Ending ToldFault → List ℕ
ending_text (ending.Frame kind octets) = codes "frame, kind " ++ (decimal kind ++ (codes ", " ++ (decimal octets ++ codes " octets")))
ending_text (ending.Fault why) = codes "fault " ++ (decimal why.number ++ (codes ", " ++ (layer_text why.layer ++ (codes ", place " ++ decimal why.place))))
ending_text ending.Spent = codes "spent"
ending_text ending.Empty = codes "line empty"

-- the mark for which an octet of a mark buffer stands
abbrev pub octet_symbol : ℕ → List ℕ
octet_symbol octet = mark_text (mark_of octet)

-- a space, and an octet as two hex digits
abbrev pub octet_digits : ℕ → List ℕ
octet_digits octet = codes " " ++ (digit_glyph true (octet / 16) ∷ (digit_glyph true (octet % 16) ∷ []))

-- how many octets there are, and the octets
abbrev pub octets_text : List ℕ → List ℕ
octets_text [] = codes "0 octets"
octets_text (o ∷ os) = decimal (length (o ∷ os)) ++ (codes " octets:" ++ flat_map octet_digits (o ∷ os))

-- an answer with the mark buffer and the frame buffer
abbrev pub report_text : DeskAnswer → List ℕ → List ℕ → List ℕ
report_text (answer.Ft12 n gap distance) marks frame =
    codes "ok FT1.2, fixed length " ++ (decimal n ++ (codes ", gap " ++ (decimal gap ++ (codes ", distance " ++ decimal distance))))
report_text (answer.Ft2 m n gap distance) marks frame =
    codes "ok FT2, fixed length " ++ (decimal m ++ (codes ", header length " ++ (decimal n ++ (codes ", gap " ++ (decimal gap ++ (codes ", distance " ++ decimal distance))))))
report_text answer.NewReceiver marks frame = codes "ok receiver"
report_text (answer.MarkBuffer n) marks frame = codes "ok mark buffer, " ++ (decimal n ++ codes " octets")
report_text (answer.FrameBuffer n) marks frame = codes "ok frame buffer, " ++ (decimal n ++ codes " octets")
report_text (answer.Wrote n) marks frame = codes "wrote " ++ (decimal n ++ (codes ": " ++ flat_map octet_symbol (take n marks)))
report_text answer.Marks marks frame = codes "mark buffer, " ++ octets_text marks
report_text answer.Frame marks frame = codes "frame buffer, " ++ octets_text frame
report_text (answer.Heard h) marks frame = codes "heard " ++ (decimal h.taken ++ (codes ": " ++ ending_text h.ending))
report_text (answer.Looked n) marks frame = octets_text (take n frame)
report_text answer.Released marks frame = codes "ok released"
report_text (answer.Stands s) marks frame = standing_text s
