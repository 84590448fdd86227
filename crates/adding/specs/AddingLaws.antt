-- The laws of one order more: the figures of an answer as numbers, that they can be joined, and what the calls leave.
use Rattle.std.specs.Prelude.{ℕ, ◌≤◌, ◌<◌, ◌≡◌, refl, Bool, true, false, ◌&&◌, List, [], ◌∷◌, ltb, leb, ℤ, length, get_or, set, drop, replicate, Ok, Err}
use Rattle.std.proofs.Common.{sym, ◌∙◌, arith, length-append, get_or-take}
use Rattle.std.proofs.Math.Path.{ap}
use Rattle.std.proofs.Math.Bool.{and-eq-true_iff}
use Rattle.std.proofs.Math.Option.{Option}
use Rattle.std.proofs.lemmas.List.{set-append_left}
use borrow.Author.Tests.{le-leb, lt-leb}
use borrow.Table.Steps.{cases}
use Rattle.refusals.specs.declared.Reason.TheVariants.{BufferTooShort, NoSheet}
use Rattle.packed.specs.declared.Refusal.{Refusal}
use Rattle.packed.specs.Judge.{Verdict, fine, refused}
use Rattle.packed.specs.Packed.{order_of}
use Rattle.plan.specs.Plan.{Answer, plan_answer}
use Rattle.area.specs.Area.{area, cleared}
use Rattle.area.specs.Clearing.{cleared-behind}
use Rattle.filling.specs.After.{work_by}
use Rattle.planner.specs.Calls.{plan_verdict, planned_by, planned_of, plan_work_after}
use Rattle.planner.specs.declared.Figures.{Figures}
use Rattle.planner.specs.Calls.{Planned, Refused, Made}
use Rattle.sheet.specs.Sheet.{Sheet, most_orders, orders, feasible, one_order, join, numbers_of, sheet_in, sheet_over, is_sheet}
use Rattle.sheet.specs.Answered.{answered, with_order}
use Rattle.sheet.specs.Joining.{CanJoin}
use Rattle.sheet.specs.SheetLaws.{one-tidy, one-orders, join-orders}
use Rattle.sheet.specs.NumbersLaws.{sheet-long, sheet-in-front}
use Rattle.sheet.specs.FitsLaws.{TopFitting, without, with-one, fits-says, fitting-passes, fitting-small, join-fits, sheet-says}
use Rattle.sheet.specs.AnsweredLaws.{Tame, refused-tame, made-tame, answered-tame, answer-fits}
use Rattle.adding.specs.Calls.{takes_one, add_refusal, add_after, add_work_after, AddCall}
use Rattle.adding.specs.Adding.{CanAdd, Added, Numbered, Countable}

-- ---- an answer's figures as numbers

refused-top : (r : Refusal) → (one_order (Refused r)).top ≡ 0
unfolding one_order
refused-top r = refl

-- The figures of a refusal, as they are set.
pub refused-numbers : (r : Refusal) → Numbered r
    → set (1 ∷ replicate 25 0) r.number 1 ≡ numbers_of (one_order (Refused r))
unfolding one_order
refused-numbers r h = set-append_left (1 ∷ replicate 23 0) (0 ∷ 0 ∷ []) r.number 1 (omega (arith, h.high))

-- An answer for bytes can be counted.
pub answer-countable : (bytes : List ℕ) → Countable (answered bytes)
answer-countable bytes = go (answered bytes) (answered-tame bytes)
  where
    go : (p : Planned) → Tame p → Countable p
    go (Refused r) (refused-tame low high) = record { low = low; high = high }
    go (Made f) (made-tame weights jobs points) = record { weights = weights; points = points }

-- ---- the work area

module _ (bytes : List ℕ) (starts work : List ℤ) where
  pub plan-behind : drop area (plan_work_after bytes starts work) ≡ drop area work
  plan-behind = go (plan_verdict bytes starts work)
    where
      go : (v : Verdict) → drop area (work_by v work) ≡ drop area work
      go fine = cleared-behind work
      go (refused r) = refl

  -- A plan leaves it cleared.
  pub made-clears : (f : Figures) → Made f ≡ planned_of bytes starts work → plan_work_after bytes starts work ≡ cleared work
  made-clears f is = go (plan_verdict bytes starts work) (plan_answer (order_of bytes)) is
    where
      go : (v : Verdict) (o : Option Answer) → Made f ≡ planned_by v o → work_by v work ≡ cleared work
      go fine o e = refl
      go (refused r) o e = let z : ◌≡◌ {A = ℕ} 0 1 = cc in absurd (omega arith)

-- ---- joined

module _ (figures : List ℕ) (bytes : List ℕ) (work : List ℤ) (can : CanAdd figures work) (one : List ℕ)
    (is : one ≡ numbers_of (one_order (answered bytes))) where
  abbrev entry : Sheet
  entry = one_order (answered bytes)

  one_in : sheet_in one ≡ entry
  one_in = ap sheet_in is ∙ sheet-in-front entry (one-tidy (answered bytes)).long []

  one-room : 26 ≤ length one
  one-room = omega (arith, ap length is, length-append entry.sums (entry.top ∷ entry.place ∷ []), (one-tidy (answered bytes)).long)

  pub one-joins : CanJoin figures one
  one-joins =
      record {
        room = can.long;
        second-room = one-room;
        small = fitting-small figures can.long (fits-says (sheet_in figures) can.fitting) (omega (arith, can.few));
        second-small =
            fitting-small one one-room (rw one_in (answer-fits bytes)) (omega (arith, ap orders one_in, one-orders (answered bytes)));
      }

  same-long : length (sheet_in figures).sums ≡ length entry.sums
  same-long = sheet-long figures can.long ∙ sym (one-tidy (answered bytes)).long

  -- An order that is feasible has a plan, and planning has cleared the work area.
  pub one-clears : (starts : List ℤ) (p : Planned) → p ≡ planned_of bytes starts work → p ≡ answered bytes → get_or one 20 0 ≡ 1
      → plan_work_after bytes starts work ≡ cleared work
  one-clears starts (Made f) is same can-be = made-clears bytes starts work f is
  one-clears starts (Refused r) is same can-be =
      absurd (none (answer-fits bytes).top-fitting (ap (λ (p : Planned). (one_order p).top) (sym same) ∙ refused-top r))
    where
      feasible-one : feasible entry ≡ 1
      feasible-one = sym (ap feasible one_in) ∙ get_or-take 24 one 20 0 (omega arith) ∙ can-be

      none : TopFitting (orders entry) (feasible entry) entry.top entry.place → entry.top ≡ 0 → ⊥
      none (without c t p) e = omega (arith, feasible-one)
      none (with-one c t m p) e = omega arith

  -- Once joined the order is counted.
  pub one-counted : (figures' : List ℕ) → figures' ≡ sheet_over (join (sheet_in figures) (sheet_in one)) figures
      → (work' : List ℤ) (clean : Bool) → drop area work' ≡ drop area work → (clean ≡ true → work' ≡ cleared work)
      → Added figures bytes work clean figures' work'
  unfolding with_order
  one-counted figures' joined work' clean behind cleans =
      record {
        counted = joined ∙ ap (λ s. sheet_over (join (sheet_in figures) s) figures) one_in;
        fitting =
            fitting-passes (join (sheet_in figures) entry)
            (join-fits (sheet_in figures) entry same-long (fits-says (sheet_in figures) can.fitting) (answer-fits bytes));
        more = omega (arith, join-orders (sheet_in figures) entry same-long, one-orders (answered bytes));
        behind = behind;
        clean = cleans;
      }

-- ---- the call

pub takes-says : (figures : List ℕ) (work : List ℤ) → 26 ≤ length figures → area ≤ length work → takes_one (sheet_in figures) ≡ true
    → CanAdd figures work
takes-says figures work room space e =
    let h = (and-eq-true_iff (is_sheet (sheet_in figures)) (ltb (orders (sheet_in figures)) most_orders)).0 e in
    let s = sheet-says (sheet_in figures) h.0 in
    record { long = room; fitting = fitting-passes (sheet_in figures) s.1; few = s.0; space = space }

module _ (figures bytes : List ℕ) (work : List ℤ) where
  pub figures-short : length figures < 26 → AddCall figures bytes work (Err BufferTooShort) figures work
  unfolding add_refusal add_after add_work_after
  figures-short h = let e = lt-leb 26 (length figures) h in record { answer = rw e; lent = rw e; area = rw e }

  pub work-short : length work < area → AddCall figures bytes work (Err BufferTooShort) figures work
  unfolding add_refusal add_after add_work_after
  work-short h =
      let e = lt-leb area (length work) h in
      cases (leb 26 (length figures))
      (λ d. record { answer = rw (d, e); lent = rw (d, e); area = rw (d, e) })
      (λ d. record { answer = rw d; lent = rw d; area = rw d })

  module _ (room : 26 ≤ length figures) (space : area ≤ length work) where
    pub add-refused : takes_one (sheet_in figures) ≡ false → AddCall figures bytes work (Err NoSheet) figures work
    unfolding add_refusal add_after add_work_after
    add-refused e =
        let a = le-leb 26 (length figures) room in
        let b = le-leb area (length work) space in
        record { answer = rw (a, b, e); lent = rw (a, b, e); area = rw (a, b, e) }

    pub add_done : takes_one (sheet_in figures) ≡ true → (figures' : List ℕ) → figures' ≡ sheet_over (with_order (sheet_in figures) bytes) figures
        → (work' : List ℤ) → work' ≡ cleared work → AddCall figures bytes work (Ok tt) figures' work'
    unfolding add_refusal add_after add_work_after
    add_done e figures' is work' clears =
        let a = le-leb 26 (length figures) room in
        let b = le-leb area (length work) space in
        record { answer = rw (a, b, e); lent = rw (a, b, e) is; area = rw (a, b, e) clears }

-- The test as the code makes it.
pub takes-by : (figures : List ℕ) (known : Bool) → known ≡ is_sheet (sheet_in figures)
    → (known && ltb (get_or figures 0 0) most_orders) ≡ takes_one (sheet_in figures)
takes-by figures known e = rw (e, get_or-take 24 figures 0 0 (omega arith))
