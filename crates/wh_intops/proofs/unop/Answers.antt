-- What extends a sign takes the low bits as a signed number, and that to the type's word.
use Rattle.wh_model.specs.declared.UnaryOp.TheVariants.{Extend8S, Extend16S, Extend32S}
use Rattle.wh_intops.proofs.Words.{extends, means_8, means_16, means_32}
use Rattle.wh_intops.proofs.unop.Goals as goal

pub returns-in-Extend8S-clause-value : goal.returns-in-Extend8S-clause-value
returns-in-Extend8S-clause-value c =
    (extends Extend8S 8 means_8 c.args.width c.args.operand c.low_8.result c.from_signed.result c.args.op c.in-Extend8S.is c.low_8.type_inv c.low_8.ensures c.from_signed.ensures).0

pub returns-in-Extend8S-clause-fits : goal.returns-in-Extend8S-clause-fits
returns-in-Extend8S-clause-fits c =
    (extends Extend8S 8 means_8 c.args.width c.args.operand c.low_8.result c.from_signed.result c.args.op c.in-Extend8S.is c.low_8.type_inv c.low_8.ensures c.from_signed.ensures).1

pub returns-in-Extend16S-clause-value : goal.returns-in-Extend16S-clause-value
returns-in-Extend16S-clause-value c =
    (extends Extend16S 16 means_16 c.args.width c.args.operand c.low_16.result c.from_signed-in-Extend16S.result c.args.op c.in-Extend16S.is c.low_16.type_inv c.low_16.ensures c.from_signed-in-Extend16S.ensures).0

pub returns-in-Extend16S-clause-fits : goal.returns-in-Extend16S-clause-fits
returns-in-Extend16S-clause-fits c =
    (extends Extend16S 16 means_16 c.args.width c.args.operand c.low_16.result c.from_signed-in-Extend16S.result c.args.op c.in-Extend16S.is c.low_16.type_inv c.low_16.ensures c.from_signed-in-Extend16S.ensures).1

pub returns-in-Extend32S-clause-value : goal.returns-in-Extend32S-clause-value
returns-in-Extend32S-clause-value c =
    (extends Extend32S 32 means_32 c.args.width c.args.operand c.to_signed.result c.from_signed-in-Extend32S.result c.args.op c.in-Extend32S.is c.to_signed.type_inv c.to_signed.ensures c.from_signed-in-Extend32S.ensures).0

pub returns-in-Extend32S-clause-fits : goal.returns-in-Extend32S-clause-fits
returns-in-Extend32S-clause-fits c =
    (extends Extend32S 32 means_32 c.args.width c.args.operand c.to_signed.result c.from_signed-in-Extend32S.result c.args.op c.in-Extend32S.is c.to_signed.type_inv c.to_signed.ensures c.from_signed-in-Extend32S.ensures).1
