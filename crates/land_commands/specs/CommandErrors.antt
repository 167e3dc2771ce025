-- Errors of commands that the policy may deny.
use Rattle.std.specs.Prelude.{ℕ, List, ◌++◌, codes, decimal}
use Rattle.land_commands.specs.ProgramFaults.{fault_of_creating}
use Rattle.land_commands.specs.declared.program_fault.ProgramFault.TheVariants as program
use Rattle.land_commands.specs.declared.command_error.CommandError.{CommandError}
use Rattle.land_commands.specs.declared.command_error.CommandError.TheVariants.{Denied, Fault}
use Rattle.land_sheet.specs.declared.extracts.fault.ExtractFault.{ExtractFault}
use Rattle.land_sheet.specs.declared.extracts.fault.ExtractFault.TheVariants as extract

-- The error for an extract that was not completed.
abbrev pub command_error_of : ExtractFault → CommandError
command_error_of (extract.Denied rule) = Denied rule
command_error_of (extract.Fault number) = Fault program.FutureMoment
command_error_of (extract.Write written) = Fault program.Stream
command_error_of (extract.Store fault written) = Fault (fault_of_creating fault)

-- The line that reports a denial.
abbrev pub denied_text : (rule : ℕ) → List ℕ
denied_text rule = codes "land: denied " ++ (decimal rule ++ codes "\n")
