use Rattle.std.proofs.Common.{◌≡◌, true, false, sym, ◌∙◌, ap, Some}
use Rattle.ost_types.specs.Path.{under, is_in}
use Rattle.ost_types.proofs.Paths.{is_in-under}
use Rattle.memory_record.specs.Changes.{view_of}
use Rattle.memory_table.proofs.Splitting.{last_name, same_last}
use Rattle.memory_record.proofs.Listings.{absent_found}
use Rattle.memory_record.proofs.listing.name_now.Goals as goal

pub returns-in_default-name_in-clause-each : goal.returns-in_default-name_in-clause-each
returns-in_default-name_in-clause-each c = λ x is.
    let p : c.in-Some.place.now ≡ under c.args.folder.now x = let e : Some c.in-Some.place.now ≡ Some (under c.args.folder.now x) = c.in-Some.ensures ∙ is in cc in
    let no = c.in_default-name_in.ensures c.args.folder.now c.in-Some.place.now c.text.ensures.names c.text-2.ensures.names c.text.ensures.value c.text-2.ensures.value in
    let n : true ≡ false = sym (is_in-under c.args.folder.now x) ∙ ap (is_in c.args.folder.now) (sym p) ∙ no in
    cc

pub returns-in_default-value_at : goal.returns-in_default-value_at
returns-in_default-value_at c =
    let is = c.in-Some-name_in.ensures c.args.folder.now c.in-Some.place.now c.text.ensures.names c.text-2.ensures.names c.text.ensures.value c.text-2.ensures.value in
    record {
      each = λ x target. let e : Some c.in-Some.place.now ≡ Some (under c.args.folder.now x) = c.in-Some.ensures ∙ target in let p : c.in-Some.place.now ≡ under c.args.folder.now x = cc in same_last c.args.folder.now _ x (sym is ∙ p);
      some = (last_name c.in-Some.place.now c.args.folder.now _ c.text-2.ensures.names is, λ none. c.in_default-value_at.not-Absent (absent_found _ (c.value_at.ensures c.in-Some.place.now c.text-3.ensures.names c.text-3.ensures.value ∙ ap (λ p. (view_of c.args.changes.now).now.at p) is ∙ none)));
    }
