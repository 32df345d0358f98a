use Rattle.std.proofs.Common.{Some, [], get_or, refl, ◌∙◌, ap}
use Rattle.std.proofs.lemmas.Result.{IfOk-weaker}
use Rattle.script_reader.proofs.Fields.{line_is, kind_read, no_kind_read, folder_gives, file_gives, link_gives}
use Rattle.script_reader.proofs.node.read_node.Goals as goal

pub returns-in-Some-Folder : goal.returns-in-Some-Folder
returns-in-Some-Folder c =
    let word = kind_read _ _ _ c.kind_of.ensures (c.in-Some-Folder.is ∙ ap Some c.in-Some-Folder.field-0-is) in
    IfOk-weaker _ _ _ (λ o. folder_gives c.args.line.now _ o (line_is (λ f. f.now) c.args.line.now _ _ c.as_slice.result.now _ c.in_ok-fields.ensures c.as_slice.ensures.value c.in-len1-up.len_at_least word)) c.read_folder.ensures

pub returns-in-Some-File : goal.returns-in-Some-File
returns-in-Some-File c =
    let word = kind_read _ _ _ c.kind_of.ensures (c.in-Some-File.is ∙ ap Some c.in-Some-File.field-0-is) in
    IfOk-weaker _ _ _ (λ o. file_gives c.args.line.now _ o (line_is (λ f. f.now) c.args.line.now _ _ c.as_slice.result.now _ c.in_ok-fields.ensures c.as_slice.ensures.value c.in-len1-up.len_at_least word)) c.read_file.ensures

pub returns-in-Some-Link : goal.returns-in-Some-Link
returns-in-Some-Link c =
    let word = kind_read _ _ _ c.kind_of.ensures (c.in-Some-Link.is ∙ ap Some c.in-Some-Link.field-0-is) in
    IfOk-weaker _ _ _ (λ o. link_gives c.args.line.now _ o (line_is (λ f. f.now) c.args.line.now _ _ c.as_slice.result.now _ c.in_ok-fields.ensures c.as_slice.ensures.value c.in-len1-up.len_at_least word)) c.read_link.ensures

pub returns : goal.returns
returns c = no_kind_read (get_or c.as_slice.result.now 0 (record { ref_ptr = (0, 0); now = [] })).now c.args.line.now _ _ c.kind_of.ensures c.in-None.is (line_is (λ f. f.now) c.args.line.now _ _ c.as_slice.result.now _ c.in_ok-fields.ensures c.as_slice.ensures.value c.in-len1-up.len_at_least refl)
