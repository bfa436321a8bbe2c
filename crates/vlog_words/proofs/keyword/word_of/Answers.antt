use Rattle.std.proofs.Common.{◌∙◌, arith}
use Rattle.vlog_words.proofs.KeywordLemmas as words
use Rattle.vlog_words.proofs.keyword.word_of.Goals as goal

pub returns-in-97 : goal.returns-in-97
returns-in-97 c = c.word_a.ensures ∙ words.at_a c.args.bytes.now c.in-97.is

pub returns-in-98 : goal.returns-in-98
returns-in-98 c = c.word_b.ensures ∙ words.at_b c.args.bytes.now c.in-98.is

pub returns-in-99 : goal.returns-in-99
returns-in-99 c = c.word_c.ensures ∙ words.at_c c.args.bytes.now c.in-99.is

pub returns-in-100 : goal.returns-in-100
returns-in-100 c = c.word_d.ensures ∙ words.at_d c.args.bytes.now c.in-100.is

pub returns-in-101 : goal.returns-in-101
returns-in-101 c = c.word_e.ensures ∙ words.at_e c.args.bytes.now c.in-101.is

pub returns-in-102 : goal.returns-in-102
returns-in-102 c = c.word_f.ensures ∙ words.at_f c.args.bytes.now c.in-102.is

pub returns-in-103 : goal.returns-in-103
returns-in-103 c = c.word_g.ensures ∙ words.at_g c.args.bytes.now c.in-103.is

pub returns-in-104 : goal.returns-in-104
returns-in-104 c = c.word_h.ensures ∙ words.at_h c.args.bytes.now c.in-104.is

pub returns-in-105 : goal.returns-in-105
returns-in-105 c = c.word_i.ensures ∙ words.at_i c.args.bytes.now c.in-105.is

pub returns-in-106 : goal.returns-in-106
returns-in-106 c = c.word_j.ensures ∙ words.at_j c.args.bytes.now c.in-106.is

pub returns-in-108 : goal.returns-in-108
returns-in-108 c = c.word_l.ensures ∙ words.at_l c.args.bytes.now c.in-108.is

pub returns-in-109 : goal.returns-in-109
returns-in-109 c = c.word_m.ensures ∙ words.at_m c.args.bytes.now c.in-109.is

pub returns-in-110 : goal.returns-in-110
returns-in-110 c = c.word_n.ensures ∙ words.at_n c.args.bytes.now c.in-110.is

pub returns-in-111 : goal.returns-in-111
returns-in-111 c = c.word_o.ensures ∙ words.at_o c.args.bytes.now c.in-111.is

pub returns-in-112 : goal.returns-in-112
returns-in-112 c = c.word_p.ensures ∙ words.at_p c.args.bytes.now c.in-112.is

pub returns-in-114 : goal.returns-in-114
returns-in-114 c = c.word_r.ensures ∙ words.at_r c.args.bytes.now c.in-114.is

pub returns-in-115 : goal.returns-in-115
returns-in-115 c = c.word_s.ensures ∙ words.at_s c.args.bytes.now c.in-115.is

pub returns-in-116 : goal.returns-in-116
returns-in-116 c = c.word_t.ensures ∙ words.at_t c.args.bytes.now c.in-116.is

pub returns-in-117 : goal.returns-in-117
returns-in-117 c = c.word_u.ensures ∙ words.at_u c.args.bytes.now c.in-117.is

pub returns-in-118 : goal.returns-in-118
returns-in-118 c = c.word_v.ensures ∙ words.at_v c.args.bytes.now c.in-118.is

pub returns-in-119 : goal.returns-in-119
returns-in-119 c = c.word_w.ensures ∙ words.at_w c.args.bytes.now c.in-119.is

pub returns-in-120 : goal.returns-in-120
returns-in-120 c = c.word_x.ensures ∙ words.at_x c.args.bytes.now c.in-120.is

pub returns-in_default-first : goal.returns-in_default-first
returns-in_default-first c = words.elsewhere c.args.bytes.now (omega arith) (omega arith) (omega arith) (omega arith) (omega arith) (omega arith)
    (omega arith) (omega arith) (omega arith) (omega arith) (omega arith) (omega arith) (omega arith) (omega arith) (omega arith) (omega arith) (omega arith)
    (omega arith) (omega arith) (omega arith) (omega arith) (omega arith)

pub returns-in_default : goal.returns-in_default
returns-in_default c = words.empty c.args.bytes.now (omega arith)
