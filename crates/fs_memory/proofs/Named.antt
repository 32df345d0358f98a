-- Which refusals a call has at all.
use Rattle.std.proofs.Common.{◌≡◌, subst, [], ◌∷◌, Option, Some, None, Result, Ok, Err, IfSome, IfErr, Bool, true, false}
use Rattle.ost_types.specs.Path.{Path, under}
use Rattle.fs_trait.specs.declared.types.FsErr.{FsErr}
use Rattle.fs_trait.specs.declared.types.FsErr.TheVariants.{Failed, Exists, Missing, NotFolder, NotEmpty, NoMemory}
use Rattle.fs_trait.specs.declared.types.Value.{Value}
use Rattle.fs_trait.specs.declared.types.Value.TheVariants.{Absent, Folder, Link, File}
use Rattle.fs_trait.specs.View.{Disk, View}
use Rattle.fs_trait.specs.Effect.{way_from, or_else, no_way, if_there, unless_file, unless_leaf, if_folder, if_names, no_new, no_file, no_leaf, no_move, no_folder, no_link, no_rmdir, OfPlacing, OfFinding, OfEmptying, Changed}
use Rattle.memory_record.specs.Answer.{IsAnswer}

-- a refusal that is one of these
abbrev pub IsOf : (FsErr → Type 0) → Option FsErr → Type 0
IsOf P r = IfSome r P

either : (P : FsErr → Type 0) (a b : Option FsErr) → IsOf P a → IsOf P b → IsOf P (or_else a b)
either P (Some e) b first second = first
either P None b first second = second

module _ (P : FsErr → Type 0) (missing : P Missing) (not_folder : P NotFolder) where
  no_way-of : (x : Value) → IsOf P (no_way x)
  no_way-of Absent = missing
  no_way-of (Folder m) = tt
  no_way-of (Link m t) = not_folder
  no_way-of (File n) = not_folder

  way-of : (d : Disk) (f p : Path) → IsOf P (way_from d f p)
  unfolding way_from
  way-of d f [] = tt
  way-of d f (x ∷ []) = tt
  way-of d f (x ∷ y ∷ p) = either P _ _ (no_way-of (d.at (under f x))) (way-of d (under f x) (y ∷ p))

  file-of : (x : Value) → IsOf P (unless_file x)
  file-of Absent = missing
  file-of (Folder m) = missing
  file-of (Link m t) = missing
  file-of (File n) = tt

  leaf-of : (x : Value) → IsOf P (unless_leaf x)
  leaf-of Absent = missing
  leaf-of (Folder m) = missing
  leaf-of (Link m t) = tt
  leaf-of (File n) = tt

  no_leaf-of : (p : Path) (d : Disk) → IsOf P (no_leaf p d)
  unfolding no_leaf
  no_leaf-of p d = either P _ _ (way-of d [] p) (leaf-of (d.at p))

  no_folder-of : (p : Path) (d : Disk) → IsOf P (no_folder p d)
  unfolding no_folder
  no_folder-of p d = either P _ _ (way-of d [] p) (no_way-of (d.at p))

there-of : (x : Value) → IsOf OfPlacing (if_there x)
there-of Absent = tt
there-of (Folder m) = tt
there-of (Link m t) = tt
there-of (File n) = tt

folder-of : (x : Value) → IsOf OfPlacing (if_folder x)
folder-of Absent = tt
folder-of (Folder m) = tt
folder-of (Link m t) = tt
folder-of (File n) = tt

names-of : (b : Bool) → IsOf OfEmptying (if_names b)
names-of true = tt
names-of false = tt

pub new_placing : (p : Path) (d : Disk) → IsOf OfPlacing (no_new p d)
unfolding no_new
new_placing p d = either OfPlacing _ _ (way-of OfPlacing tt tt d [] p) (there-of (d.at p))

pub link_placing : (from to : Path) (d : Disk) → IsOf OfPlacing (no_link from to d)
unfolding no_link
link_placing from to d = either OfPlacing _ _ (no_leaf-of OfPlacing tt tt from d) (new_placing to d)

pub move_placing : (from to : Path) (d : Disk) → IsOf OfPlacing (no_move from to d)
unfolding no_move
move_placing from to d = either OfPlacing _ _ (no_leaf-of OfPlacing tt tt from d) (either OfPlacing _ _ (way-of OfPlacing tt tt d [] to) (folder-of (d.at to)))

pub file_finding : (p : Path) (d : Disk) → IsOf OfFinding (no_file p d)
unfolding no_file
file_finding p d = either OfFinding _ _ (way-of OfFinding tt tt d [] p) (file-of OfFinding tt tt (d.at p))

pub leaf_finding : (p : Path) (d : Disk) → IsOf OfFinding (no_leaf p d)
leaf_finding p d = no_leaf-of OfFinding tt tt p d

pub folder_finding : (p : Path) (d : Disk) → IsOf OfFinding (no_folder p d)
folder_finding p d = no_folder-of OfFinding tt tt p d

pub rmdir_emptying : (b : Bool) (p : Path) (d : Disk) → IsOf OfEmptying (no_rmdir b p d)
unfolding no_rmdir
rmdir_emptying b p d = either OfEmptying _ _ (no_folder-of OfEmptying tt tt p d) (names-of b)

some_of : (P : FsErr → Type 0) (refusal : Option FsErr) (e : FsErr) → refusal ≡ Some e → IsOf P refusal → P e
some_of P refusal e is of = let h : IsOf P (Some e) = subst (λ r. IsOf P r) is of in h

-- what a changing call answers
pub changed_of : {T : Type 0} (P : FsErr → Type 0) → P Failed → P NoMemory → (refusal : Option FsErr) (v w : View) (r : Result T FsErr) (new : Option View) → IsOf P refusal → Changed refusal v w r new → IfErr r P
changed_of P failed memory refusal v w (Ok x) new of h = tt
changed_of P failed memory refusal v w (Err Failed) new of h = failed
changed_of P failed memory refusal v w (Err NoMemory) new of h = memory
changed_of P failed memory refusal v w (Err Exists) new of h = some_of P refusal Exists h.0 of
changed_of P failed memory refusal v w (Err Missing) new of h = some_of P refusal Missing h.0 of
changed_of P failed memory refusal v w (Err NotFolder) new of h = some_of P refusal NotFolder h.0 of
changed_of P failed memory refusal v w (Err NotEmpty) new of h = some_of P refusal NotEmpty h.0 of

-- what a look answers
pub answer_of : {T : Type 0} (P : FsErr → Type 0) → P NoMemory → (lacks : Bool) (refusal : Option FsErr) (Q : T → Type 0) (r : Result T FsErr) → IsOf P refusal → IsAnswer lacks refusal Q r → IfErr r P
answer_of P memory lacks refusal Q (Ok x) of h = tt
answer_of P memory lacks refusal Q (Err Failed) of h = absurd h
answer_of P memory lacks refusal Q (Err NoMemory) of h = memory
answer_of P memory lacks refusal Q (Err Exists) of h = some_of P refusal Exists h of
answer_of P memory lacks refusal Q (Err Missing) of h = some_of P refusal Missing h of
answer_of P memory lacks refusal Q (Err NotFolder) of h = some_of P refusal NotFolder h of
answer_of P memory lacks refusal Q (Err NotEmpty) of h = some_of P refusal NotEmpty h of
