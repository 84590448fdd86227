-- The figures of a sheet over orders, by what planning says of each: of none, of one, of two sheets joined, of a list; the numbers
-- that hold them, and which numbers a sheet of at most 10,000 orders can have (R46, R49). Definitions only.
use Rattle.std.specs.Prelude.{ℕ, ◌+◌, ◌*◌, ◌≡◌, Bool, cond, ◌&&◌, List, [], ◌∷◌, ◌++◌, leb, ltb, eqb, length, get_or, set, take, drop, replicate, Result, Ok, Err, is_ok, ⊤, sum}
use Rattle.seconds.specs.Limits.{most_weight, most_jobs, most_points}
use Rattle.refusals.specs.declared.Reason.{Reason}
use Rattle.refusals.specs.declared.Reason.TheVariants.{BufferTooShort, NoSheet}
use Rattle.planner.specs.Calls.{Planned, Refused, Made}

-- ---- the figures

-- Those that are sums, in the sequence of a sheet's lines: the orders, those refused by 1 to 19, the feasible ones, the weight offered
-- and the weight kept over these, and the jobs kept. Then the greatest point total and 1, which is 0 with no feasible order, and the
-- place of the first order that has it.
pub record Sheet : Type 0 where
  pub sums : List ℕ
  pub top : ℕ
  pub place : ℕ

-- How many are sums, and how many there are.
abbrev pub sum_count : ℕ
sum_count = 24

abbrev pub figure_count : ℕ
figure_count = 26

-- The sums by name; those refused by a number stand at that number.
abbrev pub orders : Sheet → ℕ
orders s = get_or s.sums 0 0

abbrev pub refused_by : ℕ → Sheet → ℕ
refused_by number s = get_or s.sums number 0

abbrev pub feasible : Sheet → ℕ
feasible s = get_or s.sums 20 0

abbrev pub offered : Sheet → ℕ
offered s = get_or s.sums 21 0

abbrev pub kept : Sheet → ℕ
kept s = get_or s.sums 22 0

abbrev pub jobs_kept : Sheet → ℕ
jobs_kept s = get_or s.sums 23 0

-- ---- of no order, of one, of two sheets, of a list of answers

unfoldable pub no_sheet : Sheet
no_sheet = record { sums = replicate sum_count 0; top = 0; place = 0 }

-- A refused order is one order, and one that is refused by its number; a planned one is feasible, and its weights and jobs count.
unfoldable pub one_order : Planned → Sheet
one_order (Refused r) = record { sums = set (1 ∷ replicate 23 0) r.number 1; top = 0; place = 0 }
one_order (Made f) = record {
  sums =
      1 ∷ (replicate 19 0 ++ (1 ∷ (f.kept_weight + f.lost_weight) ∷ f.kept_weight ∷ f.kept ∷ []));
  top = f.points + 1;
  place = 0;
}

-- Two lists added place by place.
abbrev pub add_lists : List ℕ → List ℕ → List ℕ
add_lists [] ys = []
add_lists (x ∷ xs) [] = []
add_lists (x ∷ xs) (y ∷ ys) = (x + y) ∷ add_lists xs ys

-- The greater top, and of equal ones the first; the second sheet's place is moved on behind the first's orders.
abbrev pub top_of : ℕ → ℕ → ℕ
top_of a b = cond (ltb a b) b a

abbrev pub place_of : ℕ → ℕ → ℕ → ℕ → ℕ → ℕ
place_of many a b p q = cond (ltb a b) (many + q) p

unfoldable pub join : Sheet → Sheet → Sheet
join a b =
    record {
      sums = add_lists a.sums b.sums;
      top = top_of a.top b.top;
      place = place_of (orders a) a.top b.top a.place b.place;
    }

unfoldable pub sheet_of : List Planned → Sheet
sheet_of [] = no_sheet
sheet_of (p ∷ ps) = join (one_order p) (sheet_of ps)

-- ---- as numbers

abbrev pub numbers_of : Sheet → List ℕ
numbers_of s = s.sums ++ (s.top ∷ s.place ∷ [])

-- The sheet that the first of some numbers say, and a sheet written over them: what lies behind stays.
abbrev pub sheet_in : List ℕ → Sheet
sheet_in l = record { sums = take sum_count l; top = get_or l 24 0; place = get_or l 25 0 }

unfoldable pub sheet_over : Sheet → List ℕ → List ℕ
sheet_over s l = numbers_of s ++ drop figure_count l

-- ---- which figures a sheet can have

-- The most orders of a sheet.
abbrev pub most_orders : ℕ
most_orders = 10000

-- Every order is refused by one of 1 to 19 or feasible.
abbrev pub judged : Sheet → ℕ
judged s = sum (take 20 (drop 1 s.sums))

-- No order weighs more than 300, nor keeps more than its weight, nor more than 48 jobs.
abbrev pub weights_fit : ℕ → ℕ → ℕ → ℕ → Bool
weights_fit can weight some jobs =
    leb weight (most_weight * can) && (leb some weight && leb jobs (most_jobs * can))

-- The greatest point total of an order, and 1.
abbrev pub greatest_top : ℕ
greatest_top = most_points * most_jobs + 1

-- The greatest total's figures: none without a feasible order, else from 1 on, and at the place of an order.
abbrev pub top_fits : ℕ → ℕ → ℕ → ℕ → Bool
top_fits many can top place =
    cond (eqb can 0)
    (eqb top 0 && eqb place 0)
    (ltb 0 top && (leb top greatest_top && ltb place many))

-- Figures that fit together.
unfoldable pub fits : Sheet → Bool
fits s =
    eqb (judged s) (orders s)
    && (weights_fit (feasible s) (offered s) (kept s) (jobs_kept s)
    && top_fits (orders s) (feasible s) s.top s.place)

-- Those of a sheet of at most 10,000 orders.
unfoldable pub is_sheet : Sheet → Bool
is_sheet s = leb (orders s) most_orders && fits s

-- ---- joining as a call

-- Both are sheets, of at most 10,000 orders together.
abbrev pub joins : Sheet → Sheet → Bool
joins a b = is_sheet a && (is_sheet b && leb (orders a + orders b) most_orders)

-- Refused with less room than for a sheet (10), and where they do not join (18).
unfoldable pub join_refusal : List ℕ → List ℕ → Result ⊤ Reason
join_refusal to from =
    cond (leb figure_count (length to) && leb figure_count (length from))
    (cond (joins (sheet_in to) (sheet_in from)) (Ok tt) (Err NoSheet))
    (Err BufferTooShort)

-- The first sheet's numbers after it: the two joined, or refused as they were.
unfoldable pub joined_after : List ℕ → List ℕ → List ℕ
joined_after to from =
    cond (is_ok (join_refusal to from)) (sheet_over (join (sheet_in to) (sheet_in from)) to) to

-- A call of joining: the answer, and the first one's numbers at exit.
pub record JoinCall (to from : List ℕ) (r : Result ⊤ Reason) (to' : List ℕ) : Type 0 where
  pub answer : r ≡ join_refusal to from
  pub lent : to' ≡ joined_after to from
