use Rattle.unit_rows.proofs.reader.with_flags.Goals as goal

pub returns-clause-read : goal.returns-clause-read
returns-clause-read c =
    let r = c.requires in
    record {
      blocks = r.blocks;
      objects = r.objects;
      places = r.places;
      specs = r.specs;
      env = r.env;
      leads = r.leads;
      types = r.types;
      locals = r.locals;
      inside = r.inside;
      repeats = r.repeats;
      methods = r.methods;
      repeated = r.repeated;
      copies = r.copies;
      named = r.named;
      texts = r.texts;
    }
