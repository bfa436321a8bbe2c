-- The limits: what each counts is said at its variant, and the table stands in docs/formats.md, "Limits".
use Rattle.std.specs.Prelude.{ℕ, List, ◌++◌, codes, decimal}
use Rattle.cov_types.specs.declared.limit.LimitName.{LimitName}
use Rattle.cov_types.specs.declared.limit.LimitName.TheVariants as limit

-- the greatest quantity that is within the limit
abbrev pub most : LimitName → ℕ
most limit.Files = 4096
most limit.DesignBytes = 4194304
most limit.Identifier = 255
most limit.Nesting = 100
most limit.Operators = 500
most limit.Branches = 500
most limit.MemoryWords = 65536
most limit.Scopes = 65536
most limit.Processes = 65536
most limit.Statements = 1048576
most limit.StateBits = 16777216
most limit.Nodes = 4194304
most limit.Depth = 2000
most limit.EdgeText = 16777216
most limit.Points = 1048576
most limit.KeyBytes = 65000
most limit.CvdBytes = 1073741824
most limit.DataPoints = 4194304
most limit.TotalKeyBytes = 1073741824
most limit.DataBytes = 4294967296
most limit.StimulusBytes = 1099511627776
most limit.LineEntries = 67108864
most limit.CoveredPairs = 268435456
most limit.SourceBytes = 67108864
most limit.RegressBytes = 268435456
most limit.RegressText = 268435456
most limit.ExportSize = 67108864
most limit.MacroDepth = 100
most limit.ExpandedTokens = 4194304

-- the limit's name, as it is printed
abbrev pub limit_name : LimitName → List ℕ
limit_name limit.Files = codes "files"
limit_name limit.DesignBytes = codes "design bytes"
limit_name limit.Identifier = codes "identifier"
limit_name limit.Nesting = codes "nesting"
limit_name limit.Operators = codes "operators"
limit_name limit.Branches = codes "branches"
limit_name limit.MemoryWords = codes "memory words"
limit_name limit.Scopes = codes "scopes"
limit_name limit.Processes = codes "processes"
limit_name limit.Statements = codes "statements"
limit_name limit.StateBits = codes "state bits"
limit_name limit.Nodes = codes "nodes"
limit_name limit.Depth = codes "depth"
limit_name limit.EdgeText = codes "edge text"
limit_name limit.Points = codes "points"
limit_name limit.KeyBytes = codes "key bytes"
limit_name limit.CvdBytes = codes "cvd bytes"
limit_name limit.DataPoints = codes "data points"
limit_name limit.TotalKeyBytes = codes "total key bytes"
limit_name limit.DataBytes = codes "data bytes"
limit_name limit.StimulusBytes = codes "stimulus bytes"
limit_name limit.LineEntries = codes "line entries"
limit_name limit.CoveredPairs = codes "covered pairs"
limit_name limit.SourceBytes = codes "source bytes"
limit_name limit.RegressBytes = codes "regress bytes"
limit_name limit.RegressText = codes "regress text"
limit_name limit.ExportSize = codes "export size"
limit_name limit.MacroDepth = codes "macro depth"
limit_name limit.ExpandedTokens = codes "expanded tokens"

-- `NAME NUMBER`
abbrev pub limit_text : LimitName → List ℕ
limit_text name = limit_name name ++ codes " " ++ decimal (most name)
