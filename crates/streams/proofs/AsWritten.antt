-- Tiny streams, computed: what two bytes say, and the parts of a stream cut or whole.
use Rattle.std.specs.Prelude.{◌≡◌, refl, true, false, [], ◌∷◌}
use Rattle.streams.specs.Entries.{said, parts_by, parts_of, entries_of, is_cut}

-- The highest byte comes first.
pub said-high-first : said 1 2 ≡ 258
said-high-first = refl

-- No byte is a whole stream of no entry,
pub none-whole : is_cut [] ≡ false
unfolding parts_by parts_of
none-whole = refl

pub none-empty : entries_of [] ≡ []
unfolding parts_by parts_of
none-empty = refl

-- one byte is half a length,
pub one-cut : is_cut (7 ∷ []) ≡ true
unfolding parts_by parts_of
one-cut = refl

pub one-empty : entries_of (7 ∷ []) ≡ []
unfolding parts_by parts_of
one-empty = refl

-- a length of 0 is an entry of no bytes,
pub zero-whole : is_cut (0 ∷ 0 ∷ []) ≡ false
unfolding parts_by parts_of
zero-whole = refl

pub zero-entry : entries_of (0 ∷ 0 ∷ []) ≡ [] ∷ []
unfolding parts_by parts_of
zero-entry = refl

-- and a length past the end is left, with all behind it.
pub past-entry : entries_of (0 ∷ 1 ∷ 7 ∷ 0 ∷ 2 ∷ 7 ∷ []) ≡ (7 ∷ []) ∷ []
unfolding parts_by parts_of
past-entry = refl

pub past-rest : (parts_of (0 ∷ 1 ∷ 7 ∷ 0 ∷ 2 ∷ 7 ∷ [])).rest ≡ 0 ∷ 2 ∷ 7 ∷ []
unfolding parts_by parts_of
past-rest = refl
