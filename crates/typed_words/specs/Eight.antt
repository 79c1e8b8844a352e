-- What the text of a word must be, apart from how it is read: eight hex digits of either case, the first weighing most.
-- Assumes nothing.
use Rattle.std.specs.Prelude.{◌≡◌, cond, ◌&&◌, ◌⊎◌, List, [], ◌∷◌, ℕ, ◌+◌, ◌-◌, ◌*◌, ◌^◌, ◌<◌, leb, length}
use Rattle.text.specs.Ascii.{ascii}
use Rattle.hex_texts.specs.Reading.{hex_digits, place_in}

-- the digits with small letters, each at the place that is its value
abbrev pub small_digits : List ℕ
small_digits = ascii "0123456789abcdef"

-- a byte is the digit d: it stands at that place in one of the two lists
abbrev pub IsDigit : ℕ → ℕ → Type 0
IsDigit c d = (d < 16) × ((place_in hex_digits c ≡ d) ⊎ (place_in small_digits c ≡ d))

-- each byte of a text is the digit at its place in a list
abbrev pub AreDigits : List ℕ → List ℕ → Type 0
AreDigits [] [] = Unit {0}
AreDigits [] (d ∷ ds) = ⊥
AreDigits (c ∷ t) [] = ⊥
AreDigits (c ∷ t) (d ∷ ds) = IsDigit c d × AreDigits t ds

-- the number of digits: each weighs 16, as often as there are digits behind it
abbrev pub weighed : List ℕ → ℕ
weighed [] = 0
weighed (d ∷ ds) = d * 16 ^ length ds + weighed ds

-- eight bytes, each a digit, and w is their number
abbrev pub Eight : List ℕ → ℕ → Type 0
Eight t w = (length t ≡ 8) × ((ds : List ℕ) × AreDigits t ds × (w ≡ weighed ds))

-- `a` to `f` turned into `A` to `F`, every other byte left
abbrev pub capital : ℕ → ℕ
capital c = cond (leb 97 c && leb c 102) (c - 32) c

abbrev pub capitals : List ℕ → List ℕ
capitals [] = []
capitals (c ∷ t) = capital c ∷ capitals t

-- each is a digit, its letters in capitals
abbrev pub InCapitals : List ℕ → Type 0
InCapitals [] = Unit {0}
InCapitals (c ∷ t) = (place_in hex_digits c < 16) × InCapitals t
