-- How many marks a frame has.
use Rattle.std.proofs.Common.{◌≡◌, ℕ, zero, suc, ◌+◌, ◌-◌, ◌*◌, ◌/◌, ◌≤◌, true, leb, List, [], ◌∷◌, length, take, drop, refl, ◌∙◌, arith, length-append, length-drop, length-take}
use Rattle.std.specs.Int.{div_ceil}
use Rattle.std.proofs.lemmas.Bool.{and_parts, leb-true}
use Rattle.ft2_laws.specs.Frames.{check_of, count_suits, cut_in, frame_octets, in_blocks, marks_of, with_check}
use Rattle.ft2_laws.specs.declared.kind.Kind.{Kind}
use Rattle.ft2_laws.specs.declared.kind.Kind.TheVariants.{Fixed, Variable}
use Rattle.ft2_laws.specs.declared.settings.Settings.{Settings}
use Rattle.ft2_laws.proofs.Bits.{length_marks}

-- a check octet for each 15 octets or fewer
pub length_cut : (f : ℕ) (os : List ℕ) → length os ≤ f → length (cut_in f os) ≡ length os + div_ceil (length os) 15
length_cut zero [] h = refl
length_cut zero (o ∷ os) h = absurd (omega arith)
length_cut (suc f) [] h = refl
length_cut (suc f) (o ∷ os) h =
    let xs : List ℕ = o ∷ os in
    let rest = length_cut f (drop 15 xs) (omega (arith, length-drop 15 xs)) in
    omega (
      arith,
      rest,
      length-append (with_check (take 15 xs)) (cut_in f (drop 15 xs)),
      length-append (take 15 xs) (check_of (take 15 xs) ∷ []),
      length-take 15 xs,
      length-drop 15 xs,
    )

-- the check octets of a frame, by its count of user octets
abbrev pub checks_of : Settings → Kind → ℕ → ℕ
checks_of settings Fixed n = div_ceil n 15
checks_of settings Variable n = 1 + div_ceil (n - settings.header) 15

pub length_frame : (settings : Settings) (k : Kind) (os : List ℕ) → count_suits settings k (length os) ≡ true → length (marks_of (frame_octets settings k os)) ≡ 8 * (1 + length os + checks_of settings k (length os))
length_frame settings Fixed os suits = length_marks (frame_octets settings Fixed os) ∙ omega (arith, length_cut (length os) os (omega arith))
length_frame settings Variable os suits =
    let hs : List ℕ = take settings.header os in
    let body : List ℕ = drop settings.header os in
    let from = leb-true settings.header (length os) (and_parts (leb settings.header (length os)) (leb (length os) (settings.header + 15)) suits).0 in
    length_marks (frame_octets settings Variable os)
    ∙ omega (
      arith,
      from,
      length-append (with_check hs) (in_blocks body),
      length-append hs (check_of hs ∷ []),
      length-take settings.header os,
      length-drop settings.header os,
      length_cut (length body) body (omega arith),
    )

-- whatever the count of user octets
pub length_fixed : (settings : Settings) (os : List ℕ) → length (marks_of (frame_octets settings Fixed os)) ≡ 8 * (1 + (length os + (length os + 14) / 15))
length_fixed settings os = length_marks (frame_octets settings Fixed os) ∙ omega (arith, length_cut (length os) os (omega arith))

pub length_variable : (settings : Settings) (os : List ℕ) → settings.header ≤ length os → length (marks_of (frame_octets settings Variable os)) ≡ 8 * (2 + settings.header + (length os - settings.header + (length os - settings.header + 14) / 15))
length_variable settings os from =
    let hs : List ℕ = take settings.header os in
    let body : List ℕ = drop settings.header os in
    length_marks (frame_octets settings Variable os)
    ∙ omega (
      arith,
      from,
      length-append (with_check hs) (in_blocks body),
      length-append hs (check_of hs ∷ []),
      length-take settings.header os,
      length-drop settings.header os,
      length_cut (length body) body (omega arith),
    )

pub variable_from : (settings : Settings) (n : ℕ) → count_suits settings Variable n ≡ true → (settings.header ≤ n) × (n ≤ settings.header + 15)
variable_from settings n e = let (a, b) = and_parts (leb settings.header n) (leb n (settings.header + 15)) e in (leb-true settings.header n a, leb-true n (settings.header + 15) b)
