use Rattle.std.proofs.Common.{◌≡◌, ◌∷◌, ◌++◌, [], List, ℕ, ap, ◌∙◌}
use Rattle.cov_port.proofs.HeldLemmas.{held_push}
use Rattle.cov_port.specs.Memory.{FilesInMemory, held_in}
use Rattle.cov_port.specs.Spans.{files_in}
use Rattle.cov_port.proofs.mem_files.MemFilesFiles.store.Goals as goal

pub returns-clause-stored : goal.returns-clause-stored
returns-clause-stored c = λ q.
    let name = c.args.name.now in
    let bytes = c.args.bytes.now in
    let stored : files_in c.append_file.new.log.items c.append_file.new.spans.items ≡ c.args.self.now.files ++ (name, bytes) ∷ [] =
    c.append_file.ensures.files
    ∙ (ap (λ (fs : List (List ℕ × List ℕ)). fs ++ (c.as_bytes-name.result.now, bytes) ∷ []) (ap (λ (m : FilesInMemory). m.files) c.self.view_is)
    ∙ ap (λ (n : List ℕ). c.args.self.now.files ++ (n, bytes) ∷ []) c.as_bytes-name.ensures.value) in
    ap (λ (fs : List (List ℕ × List ℕ)). held_in fs q) stored ∙ held_push c.args.self.now.files name bytes q
