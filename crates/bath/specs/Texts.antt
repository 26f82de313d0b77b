-- What is told where a result is not sent.
use Rattle.std.specs.Prelude.{Some, ◌⊎◌, codes}
use Rattle.anyhow.specs.Error.{HasMessage}
use Rattle.anyhow.specs.declared.error.Error.{Error}

abbrev pub Unsent : Error → Type 0
Unsent e = HasMessage (Some (codes "the frame is refused")) e ⊎ HasMessage (Some (codes "no memory")) e
