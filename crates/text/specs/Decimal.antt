-- Numbers in decimal as bytes, and lines of them: what the program prints. Definitions only.
use Rattle.std.specs.Prelude.{ℕ, zero, suc, ◌+◌, ◌/◌, ◌%◌, cond, List, [], ◌∷◌, ◌++◌, map, ltb, ℤ, pos, negsuc}

-- The bytes that are no figures.
abbrev pub newline : ℕ
newline = 10

abbrev pub space : ℕ
space = 32

abbrev pub minus : ℕ
minus = 45

-- The byte of a figure from 0 to 9.
abbrev pub byte_of : ℕ → ℕ
byte_of figure = 48 + figure

-- The figures of a number, greatest first, in so many turns at most.
unfoldable pub digits_in : ℕ → ℕ → List ℕ
digits_in zero n = []
digits_in (suc turns) n =
    let more : List ℕ = digits_in turns (n / 10) ++ (byte_of (n % 10) ∷ []) in
    cond (ltb n 10) (byte_of n ∷ []) more

-- The figures of a number: a figure alone below 10, else those of the tenth and then the last figure.
unfoldable pub digits : ℕ → List ℕ
digits n = digits_in (suc n) n

-- The last so many figures of a number, with zeros in front where it has fewer.
abbrev pub last_digits : ℕ → ℕ → List ℕ
last_digits zero n = []
last_digits (suc count) n = last_digits count (n / 10) ++ (byte_of (n % 10) ∷ [])

-- A signed number: its figures, a minus sign before them where it is below zero.
unfoldable pub figure : ℤ → List ℕ
figure (pos n) = digits n
figure (negsuc n) = minus ∷ digits (suc n)

-- Words with a space between, and a newline at the end.
abbrev pub words : List (List ℕ) → List ℕ
words [] = newline ∷ []
words (w ∷ []) = w ++ (newline ∷ [])
words (w ∷ v ∷ ws) = w ++ (space ∷ words (v ∷ ws))

-- A line of figures.
abbrev pub line : List ℤ → List ℕ
line zs = words (map figure zs)
