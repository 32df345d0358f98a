use Rattle.std.proofs.Common.{◌≡◌, ◌∙◌, sym, refl, ℕ, true, false, arith, List}
use Rattle.std.proofs.lemmas.Bool.Decides.{Decides-eqb}
use Rattle.std.proofs.lemmas.Slice.Eq.{slice_eq-Decides}
use Rattle.host_files.proofs.Headers.{owner_at, group_at, mode_at}
use Rattle.host_files.proofs.header.FileHeader.parse.Goals as goal
use Rattle.host_files.proofs.header.FileHeader.parse.Goals.{else-is_file_mode-via-then-is_file_mode+else-eq, else-is_file_mode-via-else-is_file_mode}

-- where the bytes are a header, the numbers that are read from it are its own
pub returns-else-is_file_mode-clause-each : goal.returns-else-is_file_mode-clause-each
returns-else-is_file_mode-clause-each c = λ u g m owner group file is.
    let bytes : List ℕ = c.args.bytes.now in
    let u_is : c.number_at.result ≡ u = c.number_at.ensures ∙ owner_at bytes u g m owner is in
    let g_is : c.number_at-2.result ≡ g = c.number_at-2.ensures ∙ group_at bytes u g m group is in
    let m_is : c.number_at-3.result ≡ m = c.number_at-3.ensures ∙ mode_at bytes u g m (omega (arith, file.1, file.2)) is in
    elim c.else-is_file_mode.branch [
      | else-is_file_mode-via-then-is_file_mode+else-eq w ↦
          let same : w.to_bytes.result ≡ bytes = w.to_bytes.ensures ∙ rw (u_is, g_is, m_is) (sym is) in
          let both : w.eq.result ≡ true = w.eq.ensures ∙ (slice_eq-Decides Decides-eqb w.to_bytes.result bytes _ refl).1 same in
          let never : false ≡ true = sym w.if-eq.false ∙ both in
          cc
      | else-is_file_mode-via-else-is_file_mode w ↦
          let regular : c.is_file_mode.result ≡ true = c.is_file_mode.ensures.1 (file.0, file.1, m_is ∙ file.2) in
          let never : false ≡ true = sym w.if-is_file_mode.false ∙ regular in
          cc
    ]
