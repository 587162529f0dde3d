-- What the words ask for: answers to lines, the check of a certificate, or a demo.
use Rattle.std.specs.Prelude.{◌≤◌, ⊤, ℕ, List, Option, Some, None}
use Rattle.std.specs.Option.{option_copied}
use Rattle.hd_words.specs.declared.demo.Demo.{Demo}
use Rattle.hd_words.specs.declared.command.Command.{Command}
use Rattle.hd_words.specs.declared.command.Command.TheVariants as command
use Rattle.hd_words.specs.declared.jobs.CheckJob.{CheckJob}
use Rattle.hd_words.specs.declared.jobs.Job.{Job}
use Rattle.hd_words.specs.declared.jobs.Job.TheVariants as job
use Rattle.hd_words.specs.declared.jobs.RunJob.{RunJob}
use Rattle.hd_words.specs.Demo.{IsDemo}
use Rattle.hd_words.specs.Limits.{greatest_tile, least_tile}

-- a surface, a script or the one line `dales`, the side of a tile, and the name to save under
pub record RunRequest : Type 0 where
  pub surface : List ℕ
  pub script : Option (List ℕ)
  pub tile : ℕ
  pub save : Option (List ℕ)

-- a surface, and a certificate of it
pub record CheckRequest : Type 0 where
  pub surface : List ℕ
  pub certificate : List ℕ

-- what the words ask for: answers to lines, the check of a certificate, or a demo
pub data Request : Type 0 where
  Run : RunRequest → Request
  Check : CheckRequest → Request
  Demonstrate : Demo → Request

-- the name of the surface, where one is read
abbrev pub surface_name : Request → Option (List ℕ)
surface_name (Run run) = Some run.surface
surface_name (Check check) = Some check.surface
surface_name (Demonstrate demo) = None

-- the name of the second input, where there is one
abbrev pub second_name : Request → Option (List ℕ)
second_name (Run run) = run.script
second_name (Check check) = Some check.certificate
second_name (Demonstrate demo) = None

-- the name to save under, where there is one
abbrev pub save_name : Request → Option (List ℕ)
save_name (Run run) = run.save
save_name request = None

-- the command of a run: without a script, `dales`
abbrev pub run_command : Option (List ℕ) → ℕ → Command
run_command None tile = command.Dales
run_command (Some script) tile = command.Run tile

-- the command that asks for a request, with the numbers among its words
abbrev pub command_for : Request → Command
command_for (Run run) = run_command run.script run.tile
command_for (Check check) = command.Check
command_for (Demonstrate demo) = command.Demo demo

-- what a job of the program stands for
abbrev pub run_request_of : RunJob → RunRequest
run_request_of run = record {
  surface = run.surface.now;
  script = option_copied run.script;
  tile = run.tile;
  save = option_copied run.save;
}

abbrev pub check_request_of : CheckJob → CheckRequest
check_request_of check = record { surface = check.surface.now; certificate = check.certificate.now }

abbrev pub request_of : Job → Request
request_of (job.Run run) = Run (run_request_of run)
request_of (job.Check check) = Check (check_request_of check)
request_of (job.Demo demo) = Demonstrate demo

-- the numbers that are asked for are within their limits
abbrev pub IsWithinLimits : Request → Type 0
IsWithinLimits (Run run) = (least_tile ≤ run.tile) × (run.tile ≤ greatest_tile)
IsWithinLimits (Check check) = ⊤
IsWithinLimits (Demonstrate demo) = IsDemo demo
