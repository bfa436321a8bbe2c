-- The reserved words: those of IEEE 1364-2005 (3.7.2, annex B), and five of IEEE 1800.
use Rattle.std.specs.Prelude.{ℕ, List, [], ◌∷◌, ◌++◌, Option, Some, None, codes, if◌then◌else◌}
use Rattle.std.specs.Str.{bytes_eq}
use Rattle.vlog_tokens.specs.declared.token.TokenKind.{TokenKind}
use Rattle.vlog_tokens.specs.declared.token.TokenKind.TheVariants as k

-- spellings, each with what it stands for
abbrev pub Table : Type 0 → Type 0
Table K = List (List ℕ × K)

-- what the table says that these bytes stand for
abbrev pub lookup : {K : Type 0} → Table K → List ℕ → Option K
lookup [] bytes = None
lookup (entry ∷ table) bytes = if bytes_eq bytes entry.0 then Some entry.1 else lookup table bytes

abbrev pub words_a : Table TokenKind
words_a =
    (codes "always", k.Always) ∷
    (codes "always_comb", k.AlwaysComb) ∷
    (codes "always_ff", k.AlwaysFf) ∷
    (codes "and", k.And) ∷
    (codes "assign", k.Assign) ∷
    (codes "automatic", k.Automatic) ∷
    []

abbrev pub words_b : Table TokenKind
words_b =
    (codes "begin", k.Begin) ∷
    (codes "buf", k.Buf) ∷
    (codes "bufif0", k.BufIf0) ∷
    (codes "bufif1", k.BufIf1) ∷
    []

abbrev pub words_c : Table TokenKind
words_c =
    (codes "case", k.Case) ∷
    (codes "casex", k.CaseX) ∷
    (codes "casez", k.CaseZ) ∷
    (codes "cell", k.Cell) ∷
    (codes "cmos", k.Cmos) ∷
    (codes "config", k.Config) ∷
    (codes "cover", k.Cover) ∷
    []

abbrev pub words_d : Table TokenKind
words_d =
    (codes "deassign", k.Deassign) ∷
    (codes "default", k.Default) ∷
    (codes "defparam", k.DefParam) ∷
    (codes "design", k.Design) ∷
    (codes "disable", k.Disable) ∷
    []

abbrev pub words_e : Table TokenKind
words_e =
    (codes "edge", k.Edge) ∷
    (codes "else", k.Else) ∷
    (codes "end", k.End) ∷
    (codes "endcase", k.EndCase) ∷
    (codes "endconfig", k.EndConfig) ∷
    (codes "endfunction", k.EndFunction) ∷
    (codes "endgenerate", k.EndGenerate) ∷
    (codes "endmodule", k.EndModule) ∷
    (codes "endprimitive", k.EndPrimitive) ∷
    (codes "endspecify", k.EndSpecify) ∷
    (codes "endtable", k.EndTable) ∷
    (codes "endtask", k.EndTask) ∷
    (codes "event", k.Event) ∷
    []

abbrev pub words_f : Table TokenKind
words_f =
    (codes "for", k.For) ∷
    (codes "force", k.Force) ∷
    (codes "forever", k.Forever) ∷
    (codes "fork", k.Fork) ∷
    (codes "function", k.Function) ∷
    []

abbrev pub words_g : Table TokenKind
words_g =
    (codes "generate", k.Generate) ∷
    (codes "genvar", k.GenVar) ∷
    []

abbrev pub words_h : Table TokenKind
words_h =
    (codes "highz0", k.HighZ0) ∷
    (codes "highz1", k.HighZ1) ∷
    []

abbrev pub words_i : Table TokenKind
words_i =
    (codes "if", k.If) ∷
    (codes "ifnone", k.IfNone) ∷
    (codes "incdir", k.IncDir) ∷
    (codes "include", k.Include) ∷
    (codes "initial", k.Initial) ∷
    (codes "inout", k.Inout) ∷
    (codes "input", k.Input) ∷
    (codes "instance", k.Instance) ∷
    (codes "integer", k.Integer) ∷
    []

abbrev pub words_j : Table TokenKind
words_j =
    (codes "join", k.Join) ∷
    []

abbrev pub words_l : Table TokenKind
words_l =
    (codes "large", k.Large) ∷
    (codes "liblist", k.LibList) ∷
    (codes "library", k.Library) ∷
    (codes "localparam", k.LocalParam) ∷
    (codes "logic", k.Logic) ∷
    []

abbrev pub words_m : Table TokenKind
words_m =
    (codes "macromodule", k.MacroModule) ∷
    (codes "medium", k.Medium) ∷
    (codes "module", k.Module) ∷
    []

abbrev pub words_n : Table TokenKind
words_n =
    (codes "nand", k.Nand) ∷
    (codes "negedge", k.NegEdge) ∷
    (codes "nmos", k.Nmos) ∷
    (codes "nor", k.Nor) ∷
    (codes "noshowcancelled", k.NoShowCancelled) ∷
    (codes "not", k.Not) ∷
    (codes "notif0", k.NotIf0) ∷
    (codes "notif1", k.NotIf1) ∷
    []

abbrev pub words_o : Table TokenKind
words_o =
    (codes "or", k.Or) ∷
    (codes "output", k.Output) ∷
    []

abbrev pub words_p : Table TokenKind
words_p =
    (codes "parameter", k.Parameter) ∷
    (codes "pmos", k.Pmos) ∷
    (codes "posedge", k.PosEdge) ∷
    (codes "primitive", k.Primitive) ∷
    (codes "property", k.Property) ∷
    (codes "pull0", k.Pull0) ∷
    (codes "pull1", k.Pull1) ∷
    (codes "pulldown", k.PullDown) ∷
    (codes "pullup", k.PullUp) ∷
    (codes "pulsestyle_ondetect", k.PulseStyleOnDetect) ∷
    (codes "pulsestyle_onevent", k.PulseStyleOnEvent) ∷
    []

abbrev pub words_r : Table TokenKind
words_r =
    (codes "rcmos", k.Rcmos) ∷
    (codes "real", k.Real) ∷
    (codes "realtime", k.RealTime) ∷
    (codes "reg", k.Reg) ∷
    (codes "release", k.Release) ∷
    (codes "repeat", k.Repeat) ∷
    (codes "rnmos", k.Rnmos) ∷
    (codes "rpmos", k.Rpmos) ∷
    (codes "rtran", k.Rtran) ∷
    (codes "rtranif0", k.RtranIf0) ∷
    (codes "rtranif1", k.RtranIf1) ∷
    []

abbrev pub words_s : Table TokenKind
words_s =
    (codes "scalared", k.Scalared) ∷
    (codes "showcancelled", k.ShowCancelled) ∷
    (codes "signed", k.Signed) ∷
    (codes "small", k.Small) ∷
    (codes "specify", k.Specify) ∷
    (codes "specparam", k.SpecParam) ∷
    (codes "strong0", k.Strong0) ∷
    (codes "strong1", k.Strong1) ∷
    (codes "supply0", k.Supply0) ∷
    (codes "supply1", k.Supply1) ∷
    []

abbrev pub words_t : Table TokenKind
words_t =
    (codes "table", k.Table) ∷
    (codes "task", k.Task) ∷
    (codes "time", k.Time) ∷
    (codes "tran", k.Tran) ∷
    (codes "tranif0", k.TranIf0) ∷
    (codes "tranif1", k.TranIf1) ∷
    (codes "tri", k.Tri) ∷
    (codes "tri0", k.Tri0) ∷
    (codes "tri1", k.Tri1) ∷
    (codes "triand", k.TriAnd) ∷
    (codes "trior", k.TriOr) ∷
    (codes "trireg", k.TriReg) ∷
    []

abbrev pub words_u : Table TokenKind
words_u =
    (codes "unsigned", k.Unsigned) ∷
    (codes "use", k.Use) ∷
    (codes "uwire", k.UWire) ∷
    []

abbrev pub words_v : Table TokenKind
words_v =
    (codes "vectored", k.Vectored) ∷
    []

abbrev pub words_w : Table TokenKind
words_w =
    (codes "wait", k.Wait) ∷
    (codes "wand", k.Wand) ∷
    (codes "weak0", k.Weak0) ∷
    (codes "weak1", k.Weak1) ∷
    (codes "while", k.While) ∷
    (codes "wire", k.Wire) ∷
    (codes "wor", k.Wor) ∷
    []

abbrev pub words_x : Table TokenKind
words_x =
    (codes "xnor", k.Xnor) ∷
    (codes "xor", k.Xor) ∷
    []

-- all reserved words
abbrev pub words : Table TokenKind
words = words_a ++ (words_b ++ (words_c ++ (words_d ++ (words_e ++ (words_f ++ (words_g ++ (words_h ++ (words_i ++ (words_j ++ (words_l ++ (words_m
    ++ (words_n ++ (words_o ++ (words_p ++ (words_r ++ (words_s ++ (words_t ++ (words_u ++ (words_v ++ (words_w ++ (words_x)))))))))))))))))))))

-- the reserved word that these bytes are, if they are one
unfoldable pub word_of : List ℕ → Option TokenKind
word_of bytes = lookup words bytes
