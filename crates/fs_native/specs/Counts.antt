-- The counts of the file system.
use Rattle.std.specs.Prelude.{ℕ}
use Rattle.fs_native.specs.declared.fs.NativeFs.{NativeFs}

-- how many changing calls there were
abbrev pub clock_of : {R File Dir S : Type 0} → NativeFs R File Dir S → ℕ
clock_of fs = fs.clock

-- how many calls failed
abbrev pub faults_of : {R File Dir S : Type 0} → NativeFs R File Dir S → ℕ
faults_of fs = fs.faults
