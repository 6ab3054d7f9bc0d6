use Rattle.std.proofs.Common.{◌≡◌, ◌∙◌, ℕ, List, Result, Ok, Err, IfOk, MatchResult, refl, sym, ap}
use Rattle.pebr_core.specs.declared.kinds.Shape.{Shape}
use Rattle.pebr_core.specs.declared.kinds.Step.{Step}
use Rattle.pebr_schedule.specs.declared.reading.Schedule.{Schedule}
use Rattle.pebr_schedule.specs.declared.reading.ScheduleError.{ScheduleError}
use Rattle.pebr_schedule.specs.declared.reading.ScheduleError.TheVariants as error
use Rattle.pebr_schedule.specs.Grammar.{schedule_of}
use Rattle.pebr_schedule.specs.Spelled.{IsPrintable, AreWritable, spelled_text}
use Rattle.pebr_schedule.proofs.Whole.{whole-read, whole-written, same_pair, err_ok}
use Rattle.pebr_schedule.proofs.reading.read_schedule.Goals as goal

-- a schedule that was read
abbrev IsReadAs : List ℕ → Result Schedule ScheduleError → Type 0
IsReadAs text r = IfOk r (λ z. schedule_of text ≡ Ok (z.shape, z.steps.items))

read_spelled : (text : List ℕ) (r : Result Schedule ScheduleError) → IsReadAs text r
    → IfOk r (λ z. text ≡ spelled_text z.shape z.steps.items)
read_spelled text (Ok z) h = (whole-read text z.shape z.steps.items h).0
read_spelled text (Err e) h = tt

read_printable : (text : List ℕ) (r : Result Schedule ScheduleError) → IsReadAs text r
    → IfOk r (λ z. IsPrintable z.shape)
read_printable text (Ok z) h = (whole-read text z.shape z.steps.items h).1
read_printable text (Err e) h = tt

read_writable : (text : List ℕ) (r : Result Schedule ScheduleError) → IsReadAs text r
    → IfOk r (λ z. AreWritable z.steps.items)
read_writable text (Ok z) h = (whole-read text z.shape z.steps.items h).2
read_writable text (Err e) h = tt

read_only : (text : List ℕ) (r : Result Schedule ScheduleError) → IsReadAs text r
    → ((n : ℕ) → r ≡ Err (error.BadLine n) → schedule_of text ≡ Err n)
    → (shape : Shape) (steps : List Step) → schedule_of text ≡ Ok (shape, steps)
    → MatchResult r (λ z. (z.shape ≡ shape) × (z.steps.items ≡ steps)) (λ e. e ≡ error.NoMemory)
read_only text (Ok z) h k shape steps e = same_pair z.shape shape z.steps.items steps (sym h ∙ e)
read_only text (Err error.NoMemory) h k shape steps e = refl
read_only text (Err (error.BadLine n)) h k shape steps e = absurd (err_ok n (shape, steps) (sym (k n refl) ∙ e))

pub returns-clause-spelled : goal.returns-clause-spelled
returns-clause-spelled c = read_spelled c.args.text.now c.read_lines.result c.read_lines.ensures.read

pub returns-clause-printable : goal.returns-clause-printable
returns-clause-printable c = read_printable c.args.text.now c.read_lines.result c.read_lines.ensures.read

pub returns-clause-writable : goal.returns-clause-writable
returns-clause-writable c = read_writable c.args.text.now c.read_lines.result c.read_lines.ensures.read

pub returns-clause-only : goal.returns-clause-only
returns-clause-only c = λ shape steps printable writable same.
    read_only c.args.text.now c.read_lines.result c.read_lines.ensures.read c.read_lines.ensures.bad shape steps
    (ap schedule_of same ∙ whole-written shape steps printable writable)
