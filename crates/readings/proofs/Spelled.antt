-- Seven octets are those that their numbers make.
use Rattle.std.proofs.Common.{◌≡◌, ℕ, ◌+◌, ◌*◌, ◌/◌, ◌%◌, ◌<◌, List, [], ◌∷◌, length, get_or, arith}
use Rattle.readings.specs.Octets.{batch_in, octets_of, temperature_in, viscosity_in}

high : (a b : ℕ) → b < 256 → (a * 256 + b) / 256 ≡ a
high a b h = omega arith

low : (a b : ℕ) → b < 256 → (a * 256 + b) % 256 ≡ b
low a b h = omega arith

high3 : (a b c : ℕ) → b < 256 → c < 256 → (a * 65536 + b * 256 + c) / 65536 ≡ a
high3 a b c h k = omega arith

mid3 : (a b c : ℕ) → b < 256 → c < 256 → ((a * 65536 + b * 256 + c) / 256) % 256 ≡ b
mid3 a b c h k = omega arith

low3 : (a b c : ℕ) → c < 256 → (a * 65536 + b * 256 + c) % 256 ≡ c
low3 a b c k = omega arith

pub spelled : (xs : List ℕ) → length xs ≡ 7 → ((i : ℕ) → get_or xs i 0 < 256) → octets_of (batch_in xs) (temperature_in xs) (viscosity_in xs) ≡ xs
spelled [] e fits = absurd (omega arith)
spelled (a ∷ []) e fits = absurd (omega arith)
spelled (a ∷ (b ∷ [])) e fits = absurd (omega arith)
spelled (a ∷ (b ∷ (c ∷ []))) e fits = absurd (omega arith)
spelled (a ∷ (b ∷ (c ∷ (d ∷ [])))) e fits = absurd (omega arith)
spelled (a ∷ (b ∷ (c ∷ (d ∷ (f ∷ []))))) e fits = absurd (omega arith)
spelled (a ∷ (b ∷ (c ∷ (d ∷ (f ∷ (g ∷ [])))))) e fits = absurd (omega arith)
spelled (a ∷ (b ∷ (c ∷ (d ∷ (f ∷ (g ∷ (h ∷ []))))))) e fits =
    let p1 : (a * 256 + b) / 256 ≡ a = high a b (fits 1) in
    let p2 : (a * 256 + b) % 256 ≡ b = low a b (fits 1) in
    let p3 : (c * 256 + d) / 256 ≡ c = high c d (fits 3) in
    let p4 : (c * 256 + d) % 256 ≡ d = low c d (fits 3) in
    let p5 : (f * 65536 + g * 256 + h) / 65536 ≡ f = high3 f g h (fits 5) (fits 6) in
    let p6 : ((f * 65536 + g * 256 + h) / 256) % 256 ≡ g = mid3 f g h (fits 5) (fits 6) in
    let p7 : (f * 65536 + g * 256 + h) % 256 ≡ h = low3 f g h (fits 6) in
    cc
spelled (a ∷ (b ∷ (c ∷ (d ∷ (f ∷ (g ∷ (h ∷ (i ∷ xs)))))))) e fits = absurd (omega arith)
