-- What the loops of the program need so that they stay within their slices and end.
mod Safe
