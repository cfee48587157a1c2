mod Judged
mod Prepared
