-- The numbers that the rules fix, once each. Definitions only. Nothing in this crate computes with them: a wrong rest, or a wrong figure of
-- halves, is first refused by the computed facts of `order AsWritten`, and every one by those of `worked Figures`.
use Rattle.std.specs.Prelude.{ℕ, ◌+◌, ℤ, pos, negsuc}

-- The seconds that the bus rests after every job. Shut on purpose: no law depends on its value.
unfoldable pub rest : ℕ
rest = 15

-- Ready times, deadlines and an order's own bus-free time lie from earliest to latest.
abbrev pub earliest : ℤ
earliest = negsuc 99999

abbrev pub latest : ℤ
latest = pos 100000

-- The latest bus-free time that a job within its deadline can leave: a point's time reaches this far.
abbrev pub latest_free : ℤ
latest_free = pos (100000 + rest)

-- The highest number of a job; the lowest is 0.
abbrev pub highest_number : ℕ
highest_number = 63

-- The highest pack; the lowest is 0.
abbrev pub highest_pack : ℕ
highest_pack = 255

-- The longest job, in seconds.
abbrev pub longest : ℕ
longest = 10000

-- The greatest weight of one job, and of all jobs together.
abbrev pub heaviest : ℕ
heaviest = 50

abbrev pub most_weight : ℕ
most_weight = 300

-- The most jobs in an order, and the most points in a profile.
abbrev pub most_jobs : ℕ
most_jobs = 48

abbrev pub most_points : ℕ
most_points = 301

-- What stands for the start of a job that is left out.
abbrev pub left_out : ℤ
left_out = pos 200000

-- The coldest cell that is heated, in degrees.
abbrev pub coldest : ℤ
coldest = negsuc 29

-- In an order of halves: the highest number of a critical half, how far above it its optional half's number lies, and the
-- seconds that an optional half takes for each weight.
abbrev pub highest_half : ℕ
highest_half = 31

abbrev pub halves_apart : ℕ
halves_apart = 32

abbrev pub seconds_per_weight : ℕ
seconds_per_weight = 60

-- The most repeating jobs, and the longest frame of them, in seconds: a day.
abbrev pub most_repeating : ℕ
most_repeating = 16

abbrev pub longest_frame : ℕ
longest_frame = 86400
