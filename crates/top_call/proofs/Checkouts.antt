-- The folders of checkouts, from the disk at the beginning to the end of a run.
use Rattle.std.proofs.Common.{◌≡◌, ◌≢◌, inl, inr, ⊎_elim, ◌<◌, ℕ, true, sym, ◌∙◌, ap, arith, subst, List, [], append-nil}
use Rattle.ost_types.specs.Path.{Name, is_below}
use Rattle.ost_types.proofs.Paths.{is_below-self}
use Rattle.fs_trait.specs.Seen.{Seen, Vacant, shows}
use Rattle.fs_trait.specs.View.{Disk}
use Rattle.repo_layout.specs.BootPaths.{checkout_path}
use Rattle.repo_layout.specs.declared.folder.Folder.{Folder}
use Rattle.repo_layout.specs.Paths.{config_path, folder_path, stage_path}
use Rattle.repo_layout.specs.Place.{Checkout, Config, Other, Stage, place}
use Rattle.repo_layout.proofs.Places.{place-checkout, place-config, place-stage}
use Rattle.layout_rules.proofs.Layouts.{below_split, fixed_other}
use Rattle.lane_system.specs.Folders.{AreClear, AreClearIn, AreFoldersIn, IsNamed, IsTaken}
use Rattle.rely_guarantee.specs.Rely.{IsBoot}
use Rattle.sys_open.specs.Changes.{Changes, Keeps, Puts, file_meta}
use Rattle.sys_open.proofs.LeftOvers.{lies_boot}
use Rattle.repo_config.specs.Config.{config_text}
use Rattle.commands.specs.Family.{Lane, doing, means}

-- an opening puts nothing in a checkout's place
not_laid : (name : Name) (f : Folder) → checkout_path name ≡ folder_path f → ⊥
not_laid name f is = let n : Checkout name [] ≡ Other (folder_path f) = sym (place-checkout name []) ∙ ap place is ∙ fixed_other f (folder_path f) (is_below-self (folder_path f)) in cc

not_staged : (name : Name) → checkout_path name ≡ stage_path 0 → ⊥
not_staged name is = let n : Checkout name [] ≡ Stage 0 = sym (place-checkout name []) ∙ ap place (is ∙ sym (append-nil (stage_path 0))) ∙ place-stage 0 [] (omega arith) in cc

not_config : (name : Name) → checkout_path name ≡ config_path → ⊥
not_config name is = let n : Checkout name [] ≡ Config = sym (place-checkout name []) ∙ ap place is ∙ place-config in cc

not_put : (name : Name) (s : Seen) → Puts (stage_path 0) config_path file_meta config_text (checkout_path name) s → ⊥
not_put name s (inl staged) = not_staged name staged.0
not_put name s (inr put) = not_config name put.0

not_cleared : (name : Name) (actor : ℕ) → actor < 16 → is_below (stage_path actor) (checkout_path name) ≡ true → ⊥
not_cleared name actor few below =
    let rest = below_split (stage_path actor) (checkout_path name) below in
    let n : Checkout name [] ≡ Stage actor = sym (place-checkout name []) ∙ ap place rest.1 ∙ place-stage actor rest.0 (omega (arith, few)) in
    cc

not_changed : (d : Disk) (name : Name) (s : Seen) → Changes d (checkout_path name) s → ⊥
not_changed d name s (inl lays) = not_laid name lays.0.0 lays.0.1
not_changed d name s (inr (inl clears)) = not_cleared name clears.0 clears.1 clears.2.0
not_changed d name s (inr (inr (inl puts))) = not_put name s puts.puts
not_changed d name s (inr (inr (inr cleared))) = let n : IsBoot (Checkout name []) = subst IsBoot (place-checkout name []) (lies_boot d (checkout_path name) cleared.0) in n

-- so what stands after it stood before
still : (d e : Disk) → Keeps d e → (name : Name) → shows e (checkout_path name) ≡ shows d (checkout_path name)
still d e keeps name = ⊎_elim (λ same. same) (λ changed. absurd (not_changed d name (shows e (checkout_path name)) changed)) (keeps (checkout_path name))

stood : (d e : Disk) → Keeps d e → (name : Name) → shows e (checkout_path name) ≢ Vacant → shows d (checkout_path name) ≢ Vacant
stood d e keeps name there none = there (still d e keeps name ∙ none)

named_before : (lanes : List Lane) (d e : Disk) → Keeps d e → (name : Name) → IsNamed means lanes e name → IsNamed means lanes d name
named_before lanes d e keeps name (inl there) = inl (stood d e keeps name there)
named_before lanes d e keeps name (inr by) = inr by

taken_before : (lanes : List Lane) (d e : Disk) → Keeps d e → (name : Name) (lane number : ℕ) → IsTaken means lanes e name lane number → IsTaken means lanes d name lane number
taken_before lanes d e keeps name lane number (inl there) = inl (stood d e keeps name there)
taken_before lanes d e keeps name lane number (inr by) = inr by

pub folders_before : (lanes : List Lane) (d e now : Disk) → Keeps d e → AreFoldersIn means lanes e now → AreFoldersIn means lanes d now
folders_before lanes d e now keeps are = record {
  made = λ name there. named_before lanes d e keeps name (are.made name there);
  taken = λ lane number r c name to is found. taken_before lanes d e keeps name lane number (are.taken lane number r c name to is found);
  clear = record { free = λ lane number r c name to is said. sym (still d e keeps name) ∙ are.clear.free lane number r c name to is said; one = are.clear.one };
}

-- what each command found where it made its folder
pub clear_in : (lanes : List Lane) (opening now : Disk) → AreClear means doing lanes opening now → AreClearIn means lanes opening
clear_in lanes opening now is = record {
  free = λ lane number r c name to of said. (is.free name lane number (inl (r, c, to, of, said))).0;
  one = λ lane number other another r q c e name to of said too off told. is.one name lane number other another (inl (r, c, to, of, said)) (inl (q, e, too, off, told));
}
