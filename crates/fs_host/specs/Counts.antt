-- The counts of the machine's file system, and of its streams.
use Rattle.std.specs.Prelude.{ℕ}
use Rattle.fs_host.specs.declared.fs.HostFs.{HostFs}
use Rattle.fs_host.specs.declared.streams.StdSource.{StdSource}
use Rattle.fs_host.specs.declared.streams.StdSink.{StdSink}

-- how many changing calls there were
abbrev pub clock_of : {R File Dir S : Type 0} → HostFs R File Dir S → ℕ
clock_of fs = fs.clock

-- how many calls failed
abbrev pub faults_of : {R File Dir S : Type 0} → HostFs R File Dir S → ℕ
faults_of fs = fs.faults

abbrev pub failed_takes : {S : Type 0} → StdSource S → ℕ
failed_takes s = s.faults

-- how many calls failed, or took nothing
abbrev pub failed_puts : {R : Type 0} → StdSink R → ℕ
failed_puts s = s.faults
