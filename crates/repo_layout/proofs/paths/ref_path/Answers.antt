use Rattle.std.proofs.Common.{◌≡◌, ◌∷◌, ◌++◌, ℕ, List, codes, sym, ◌∙◌, ap, subst}
use Rattle.ost_types.specs.Path.{text_of}
use Rattle.repo_layout.specs.RefName.{IsRefName}
use Rattle.repo_layout.specs.Paths.{heads_text, ref_path}
use Rattle.repo_layout.proofs.RefPaths.{ref_path-text}
use Rattle.repo_layout.proofs.KnownPaths.{parsed, ref-known}
use Rattle.repo_layout.proofs.paths.ref_path.Goals as goal

-- the text that is read, from what each step made of it
whole : (name before after last text : List ℕ) → text ≡ last → last ≡ before ++ after → before ≡ codes "/ostree/repo/refs/heads/" → after ≡ name → text ≡ text_of (ref_path name)
whole name before after last text e f g h = e ∙ f ∙ ap (λ b. b ++ after) g ∙ ap (λ a. heads_text ++ 47 ∷ a) h ∙ sym (ref_path-text name)

pub known_path-requires : goal.known_path-requires
known_path-requires c =
    let name = subst IsRefName c.as_slice.ensures.value c.as_slice.ensures.name in
    (ref_path c.args.name.now, parsed _ _ (ref-known c.args.name.now name) (whole c.args.name.now _ _ _ _ c.as_slice-2.ensures c.in_ok-append.ensures.ok c.in_ok-text.ensures c.as_slice.ensures.value))

pub returns : goal.returns
returns c =
    let name = subst IsRefName c.as_slice.ensures.value c.as_slice.ensures.name in
    c.known_path.ensures (ref_path c.args.name.now) (parsed _ _ (ref-known c.args.name.now name) (whole c.args.name.now _ _ _ _ c.as_slice-2.ensures c.in_ok-append.ensures.ok c.in_ok-text.ensures c.as_slice.ensures.value))
