use Rattle.std.proofs.Common.{◌≡◌, [], IsTrue, Some, true, sym, ◌∙◌, ap, subst, unwrap_or, rules}
use Rattle.std.specs.Fmt.{decimal}
use Rattle.std.specs.Option.{option_copied, option_map}
use Rattle.bls_entry.specs.Entry.{IsVersionOf, NamesOne}
use Rattle.bls_entry.proofs.found.Found.into_entry.Goals as goal

pub returns : goal.returns
returns c = λ lines t.
    let v : IsVersionOf c.version_or_zero.result (option_map decimal c.args.self.version) = c.version_or_zero.ensures in
    let is : c.names_one.result ≡ true = c.if-not-names_one.false in
    let one : NamesOne c.as_bytes.result.now = c.names_one.ensures.0 (subst IsTrue (sym is) (search rules)) in
    record {
      title = c.in_ok-text_or_empty.ensures ∙ ap (λ x. unwrap_or x.title []) t;
      version = subst (IsVersionOf c.version_or_zero.result) (ap (λ x. x.version) t) v;
      options = sym (ap (λ x. x.options) t) ∙ ap option_copied c.in-Some.is ∙ ap Some (sym c.in_ok-text_from.ensures);
      linux = c.in_ok-text_or_empty-2.ensures ∙ ap (λ x. unwrap_or x.linux []) t;
      initrd = c.in_ok-text_if_some.ensures ∙ ap (λ x. x.initrd) t;
      ostree = subst NamesOne (c.as_bytes.ensures.value ∙ sym c.in_ok-text_from.ensures) one;
    }
