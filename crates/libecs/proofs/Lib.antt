mod KeptParts
mod Refusals
