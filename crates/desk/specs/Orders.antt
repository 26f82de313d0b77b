-- What the orders do to the desk, before and after, and to the line, and what is answered.
use Rattle.std.specs.Prelude.{◌≡◌, ◌⊎◌, List, Ok, Err, Result, replicate, vec_items}
use Rattle.lines.specs.declared.mark.Mark.{Mark}
use Rattle.desk.specs.Hearings.{AtHearing, ChoseFt12, ChoseFt2}
use Rattle.desk.specs.declared.answer.DeskAnswer.{DeskAnswer}
use Rattle.desk.specs.declared.answer.DeskAnswer.TheVariants as answer
use Rattle.desk.specs.declared.answer.Undone.{Undone}
use Rattle.desk.specs.declared.answer.Undone.TheVariants as undone
use Rattle.desk.specs.declared.desk.Desk.{Desk}
use Rattle.desk.specs.declared.order.DeskOrder.{DeskOrder}
use Rattle.desk.specs.declared.order.DeskOrder.TheVariants as order

-- without memory nothing is changed
abbrev pub NoMemory : Desk → Desk → Result DeskAnswer Undone → Type 0
NoMemory d d' a = (a ≡ Err undone.NoMemory) × (d' ≡ d)

abbrev pub Obeyed : {L : Type 0} → (L → List Mark) → DeskOrder → Desk → Desk → L → L → Result DeskAnswer Undone → Type 0
Obeyed pending (order.Ft12 n) d d' l l' a = ChoseFt12 n d.hearing d'.hearing a × (d'.buffers ≡ d.buffers) × (l' ≡ l)
Obeyed pending (order.Ft2 m n) d d' l l' a = ChoseFt2 m n d.hearing d'.hearing a × (d'.buffers ≡ d.buffers) × (l' ≡ l)
Obeyed pending (order.MarkBuffer n) d d' l l' a =
    (((a ≡ Ok (answer.MarkBuffer n)) × (vec_items d'.buffers.marks ≡ replicate n 255) × (d'.hearing ≡ d.hearing) × (d'.buffers.frame ≡ d.buffers.frame)) ⊎ NoMemory d d' a) × (l' ≡ l)
Obeyed pending (order.FrameBuffer n) d d' l l' a =
    (((a ≡ Ok (answer.FrameBuffer n)) × (vec_items d'.buffers.frame ≡ replicate n 255) × (d'.hearing ≡ d.hearing) × (d'.buffers.marks ≡ d.buffers.marks)) ⊎ NoMemory d d' a) × (l' ≡ l)
Obeyed pending order.ShowMarks d d' l l' a = (a ≡ Ok answer.Marks) × (d' ≡ d) × (l' ≡ l)
Obeyed pending order.ShowFrame d d' l l' a = (a ≡ Ok answer.Frame) × (d' ≡ d) × (l' ≡ l)
Obeyed pending (order.Call call) d d' l l' a = AtHearing pending call d.hearing d'.hearing l l' d.buffers d'.buffers a
