-- FT1.2 mark by mark: a bounded state that says of each mark what is said of the list.
use Rattle.std.specs.Prelude.{ℕ, zero, suc, ◌+◌, ◌*◌, ◌/◌}
use Rattle.formats.specs.Machine.{Machine}
use Rattle.formats.specs.Verdicts.{Verdict}
use Rattle.lines.specs.Characters.{parity_mark}
use Rattle.lines.specs.declared.mark.Mark.{Mark}
use Rattle.ft12_laws.specs.Reading.{judge, judge_start, judge_data, judge_parity, judge_stop, next, value}
use Rattle.ft12_laws.specs.declared.reading.Place.{Place}
use Rattle.ft12_laws.specs.declared.reading.Place.TheVariants.{First}
use Rattle.ft12_laws.specs.declared.reading.Part.{Part}
use Rattle.ft12_laws.specs.declared.reading.Part.TheVariants as part
use Rattle.ft12_laws.specs.declared.reading.Reading.{Reading}

-- a data mark comes in as the octet's highest bit and moves the others down
abbrev pub moved_in : ℕ → Mark → ℕ
moved_in o m = o / 2 + 128 * value m

abbrev pub says_at : Place → Part → Mark → Verdict
says_at p part.Start m = judge_start m
says_at p (part.Bit left o) m = judge_data m
says_at p (part.Parity o) m = judge_parity (parity_mark o) m
says_at p (part.Stop o) m = judge_stop (judge p o) m

abbrev pub after_at : ℕ → Place → Part → Mark → Reading
after_at fixed p part.Start m = record { place = p; part = part.Bit 7 0 }
after_at fixed p (part.Bit zero o) m = record { place = p; part = part.Parity (moved_in o m) }
after_at fixed p (part.Bit (suc left) o) m = record { place = p; part = part.Bit left (moved_in o m) }
after_at fixed p (part.Parity o) m = record { place = p; part = part.Stop o }
after_at fixed p (part.Stop o) m = record { place = next fixed p o; part = part.Start }

abbrev pub beginning : Place → Reading
beginning p = record { place = p; part = part.Start }

abbrev pub ft12_machine : ℕ → Machine Reading
ft12_machine fixed = record {
  start = beginning First;
  says = λ s m. says_at s.place s.part m;
  after = λ s m. after_at fixed s.place s.part m;
}
