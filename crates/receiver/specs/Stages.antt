-- What a receiver keeps of where it is, in the words of the rules.
use Rattle.std.specs.Prelude.{◌+◌, List, [], length}
use Rattle.lines.specs.declared.mark.Mark.{Mark}
use Rattle.formats.specs.Laws.{Model}
use Rattle.hearing.specs.Rules.{count_told, holding, ready, waiting, within}
use Rattle.hearing.specs.Rules as rules
use Rattle.hearing.specs.declared.answer.State.{State}
use Rattle.hearing.specs.declared.answer.State.TheVariants as state
use Rattle.receiver.specs.declared.stage.OpenList.{OpenList}
use Rattle.receiver.specs.declared.stage.Stage.{Stage}
use Rattle.receiver.specs.declared.stage.Stage.TheVariants.{Waiting, Ready, Open, Holding}

-- what the receiver keeps of an open list
abbrev pub list_kept : Model → List Mark → OpenList
list_kept m list = record { marks = length list; octets = count_told m list }

abbrev pub with_mark : OpenList → OpenList
with_mark l = record { marks = l.marks + 1; octets = l.octets }

abbrev pub with_octet : OpenList → OpenList
with_octet l = record { marks = l.marks; octets = l.octets + 1 }

-- what it keeps of a stage
abbrev pub kept : Model → rules.Stage → Stage
kept m waiting = Waiting
kept m ready = Ready
kept m (within list) = Open (list_kept m list)
kept m (holding kind octets) = Holding kind octets

-- the list for which the format's state stands at each stage
abbrev pub list_at : rules.Stage → List Mark
list_at waiting = []
list_at ready = []
list_at (within list) = list
list_at (holding kind octets) = []

abbrev pub state_kept : Stage → State
state_kept Waiting = state.Waiting
state_kept Ready = state.Ready
state_kept (Open list) = state.Open
state_kept (Holding kind octets) = state.Holding
