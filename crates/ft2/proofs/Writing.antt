-- A frame written is the frame.
use Rattle.std.proofs.Common.{◌≡◌, ℕ, ◌+◌, ◌*◌, ◌<◌, ◌≤◌, true, List, [], ◌∷◌, ◌++◌, length, take, drop, Some, None, Option, Ok, Err, Result, MatchResult, sym, ap, ◌∙◌, ap₂, arith, length-append}
use Rattle.std.specs.Option.{ok_or}
use Rattle.formats.specs.Answers.{Written}
use Rattle.formats.specs.Laws.{Octets}
use Rattle.formats.specs.Putting.{Put}
use Rattle.formats.specs.declared.refusal.WriteRefusal.{WriteRefusal}
use Rattle.formats.specs.declared.refusal.WriteRefusal.TheVariants.{NoSuchKind, WrongCount, WrongFirst, ShortBuffer}
use Rattle.formats.proofs.Putting.{put_filled, put_same}
use Rattle.ft2_laws.specs.Frames.{check_of, frame_marks, frame_octets, headed_kind, in_blocks, is_kind, kind_of, marks_of, octet_marks, suits_kind, with_check}
use Rattle.ft2_laws.specs.Reading.{ft2_model}
use Rattle.ft2_laws.specs.declared.kind.Kind.{Kind}
use Rattle.ft2_laws.specs.declared.kind.Kind.TheVariants.{Variable}
use Rattle.ft2_laws.specs.declared.settings.Settings.{Settings}
use Rattle.ft2_laws.proofs.Bits.{length_marks, marks_append}
use Rattle.ft2_laws.proofs.Laws.{ft2_laws}
use Rattle.ft2.specs.declared.frame.Frame.{Frame}

-- the marks of a variable frame, by its header and its body
pub variable_marks : (settings : Settings) (k : Kind) (os header body : List ℕ) (n : ℕ) → k ≡ Variable → n ≡ settings.header → header ≡ take n os → body ≡ drop n os → octet_marks 0x14 ++ (marks_of (with_check header) ++ marks_of (in_blocks body)) ≡ marks_of (frame_octets settings k os)
variable_marks settings k os header body n kind most is rest =
    ap₂ (λ x y. octet_marks 0x14 ++ (marks_of (with_check x) ++ marks_of (in_blocks y))) (is ∙ ap (λ i. take i os) most) (rest ∙ ap (λ i. drop i os) most)
    ∙ ap (λ ms. octet_marks 0x14 ++ ms) (sym (marks_append (with_check (take settings.header os)) (in_blocks (drop settings.header os))))
    ∙ ap (λ x. marks_of (frame_octets settings x os)) (sym kind)

pub variable_count : (settings : Settings) (k : Kind) (os header body : List ℕ) (n : ℕ) → k ≡ Variable → n ≡ settings.header → header ≡ take n os → body ≡ drop n os → length (marks_of (frame_octets settings k os)) ≡ 8 + 8 * (length header + 1) + length (marks_of (in_blocks body))
variable_count settings k os header body n kind most is rest =
    omega (
      arith,
      ap length (variable_marks settings k os header body n kind most is rest),
      length-append (marks_of (with_check header)) (marks_of (in_blocks body)),
      length_marks (with_check header),
      length-append header (check_of header ∷ []),
    )

-- a kind that was found
pub kind_found : (o : Option Kind) (k : Kind) → Ok k ≡ ok_or o NoSuchKind → o ≡ Some k
kind_found None k e = cc
kind_found (Some l) k e = cc

-- what write owes
module _ (frame : Frame) (number : ℕ) (before after : List ℕ) (is : kind_of number ≡ Some frame.kind) (are : Octets frame.octets.now) where
  known : is_kind (kind_of number) ≡ true
  known = ap is_kind is

  suits : suits_kind frame.settings (kind_of number) (length frame.octets.now) ≡ true
  suits = ap (λ x. suits_kind frame.settings x (length frame.octets.now)) is ∙ frame.counted

  headed : headed_kind frame.settings (kind_of number) frame.octets.now ≡ true
  headed = ap (λ x. headed_kind frame.settings x frame.octets.now) is ∙ frame.headed

  same : marks_of (frame_octets frame.settings frame.kind frame.octets.now) ≡ frame_marks frame.settings (kind_of number) frame.octets.now
  same = sym (ap (λ x. frame_marks frame.settings x frame.octets.now) is)

  pub written : (r : Result ℕ WriteRefusal) → MatchResult r (λ n. (length (marks_of (frame_octets frame.settings frame.kind frame.octets.now)) ≤ length before) × Put 0 (marks_of (frame_octets frame.settings frame.kind frame.octets.now)) before n after) (λ e. (e ≡ ShortBuffer) × (after ≡ before) × (length before < length (marks_of (frame_octets frame.settings frame.kind frame.octets.now)))) → Written (ft2_model frame.settings) number frame.octets.now before r after
  written (Ok n) (room, put) = (
    known,
    suits,
    headed,
    omega (arith, put.behind, ap length same),
    omega (arith, put.behind),
    put_filled (put_same same put),
    (ft2_laws frame.settings).frame_reads number frame.octets.now (record { kind_known = known; count_suits = suits; first_suits = headed; are_octets = are }),
  )
  written (Err ShortBuffer) w = (w.1, known, suits, headed, omega (arith, w.2, ap length same))
  written (Err NoSuchKind) w = let e = w.0 in cc
  written (Err WrongCount) w = let e = w.0 in cc
  written (Err WrongFirst) w = let e = w.0 in cc
