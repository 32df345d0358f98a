-- What the line of a damage says behind the path.
use Rattle.std.specs.Prelude.{ℕ, List, [], ◌∷◌, ◌++◌, codes}
use Rattle.std.specs.Fmt.{decimal}
use Rattle.ost_types.specs.Csum.{hex_of}
use Rattle.ost_types.specs.declared.object.Kind.{Kind}
use Rattle.ost_types.specs.declared.object.Kind.TheVariants.{Commit, DirTree, DirMeta, File}
use Rattle.bls_entry.specs.declared.fault.BlsFault.{BlsFault}
use Rattle.bls_entry.specs.declared.fault.BlsFault.TheVariants as bls
use Rattle.boot_read.specs.declared.fault.EntryFault.{EntryFault}
use Rattle.boot_read.specs.declared.fault.EntryFault.TheVariants.{TooLong, Unread}
use Rattle.ost_forms.specs.declared.fault.ObjFault.{ObjFault}
use Rattle.ost_forms.specs.declared.fault.ObjFault.TheVariants.{NotNormal, BadSumLength, BadName, NotSorted, BadMode, TooLarge}
use Rattle.ost_forms.specs.declared.fault.ObjFault.TheVariants as reader
use Rattle.ost_objects.specs.declared.fault.CheckFault.{CheckFault}
use Rattle.ost_objects.specs.declared.fault.CheckFault.TheVariants.{WrongSum, Unreadable}
use Rattle.ost_objects.specs.declared.fault.CheckFault.TheVariants as check
use Rattle.sys_open.specs.declared.fault.Why.{Why}
use Rattle.sys_open.specs.declared.fault.Why.TheVariants.{BadConfig, BadRef, BadObject, Incomplete, TooMany, WrongKind, BadLink, BadEntry, NoDeployment, NotCheckout, KernelCopy}

-- of bytes that don't read; want of memory is never told as a damage
abbrev pub unreadable_end : ObjFault → List ℕ
unreadable_end NotNormal = codes " BadObject Unreadable NotNormal\n"
unreadable_end BadSumLength = codes " BadObject Unreadable BadSumLength\n"
unreadable_end BadName = codes " BadObject Unreadable BadName\n"
unreadable_end NotSorted = codes " BadObject Unreadable NotSorted\n"
unreadable_end BadMode = codes " BadObject Unreadable BadMode\n"
unreadable_end (TooLarge n) = codes " BadObject Unreadable TooLarge " ++ (decimal n ++ 10 ∷ [])
unreadable_end reader.NoMemory = codes " BadObject\n"

abbrev pub object_end : CheckFault → List ℕ
object_end (WrongSum found) = codes " BadObject WrongSum " ++ (hex_of found ++ 10 ∷ [])
object_end (Unreadable fault) = unreadable_end fault
object_end check.NoMemory = codes " BadObject\n"

-- an object is told by its kind and its sum
abbrev pub incomplete_of : Kind → List ℕ
incomplete_of Commit = codes " Incomplete commit "
incomplete_of DirTree = codes " Incomplete dirtree "
incomplete_of DirMeta = codes " Incomplete dirmeta "
incomplete_of File = codes " Incomplete file "

-- of a file that is no boot entry; want of memory is never told as a damage
abbrev pub text_end : BlsFault → List ℕ
text_end (bls.BadLine line) = codes " BadEntry BadLine " ++ (decimal line ++ 10 ∷ [])
text_end bls.NoOptions = codes " BadEntry NoOptions\n"
text_end bls.NoOstree = codes " BadEntry NoOstree\n"
text_end bls.NoMemory = codes " BadEntry\n"

abbrev pub entry_end : EntryFault → List ℕ
entry_end TooLong = codes " BadEntry TooLong\n"
entry_end (Unread fault) = text_end fault

abbrev pub why_end : Why → List ℕ
why_end BadConfig = codes " BadConfig\n"
why_end BadRef = codes " BadRef\n"
why_end (BadObject fault) = object_end fault
why_end (Incomplete object) = incomplete_of object.kind ++ (hex_of object.csum ++ 10 ∷ [])
why_end (TooMany n) = codes " TooMany " ++ (decimal n ++ 10 ∷ [])
why_end WrongKind = codes " WrongKind\n"
why_end BadLink = codes " BadLink\n"
why_end (BadEntry fault) = entry_end fault
why_end NoDeployment = codes " NoDeployment\n"
why_end NotCheckout = codes " NotCheckout\n"
why_end KernelCopy = codes " KernelCopy\n"
