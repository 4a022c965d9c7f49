-- The status that a run ends with.
use Rattle.std.specs.Prelude.{ℕ, Bool, true, false, if◌then◌else◌, is_err, is_some, Some, None, Result, Ok, Err}
use Rattle.program.specs.declared.failure.Failure.{Failure}
use Rattle.program.specs.declared.report.Report.{Report}
use Rattle.program.specs.declared.report.Report.TheVariants.{Copied, Played, Replayed, Timed}

-- a fault of what was copied, played or timed, a difference between block sizes, or block sizes that were not compared
abbrev pub stops : Report → Bool
stops (Copied file copied) = is_err copied.written.ending
stops (Played inputs played) = is_err played.written.ending
stops (Timed inputs timed) = is_err timed.ending
stops (Replayed steps answers (Some compared)) = is_some compared.difference
stops (Replayed steps answers None) = true
stops _ = false

-- 0, or 1 where the run stopped, met a fault or a difference, or compared nothing
abbrev pub status_of : Result Report Failure → ℕ
status_of (Ok report) = if stops report then 1 else 0
status_of (Err failure) = 1
